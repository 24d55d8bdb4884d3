use Rattle.std.proofs.Common.{◌≡◌, ◌∙◌, Some, None, subst, sym}
use Rattle.caldate_answers.specs.declared.request.Clock.{Clock}
use Rattle.caldate_answers.proofs.ClockMoves.{OneLocal}
use Rattle.caldate_run.proofs.laws.one_place.Goals as goal

pub returns-in-Some : goal.returns-in-Some
returns-in-Some c = λ clock is.
    let both : Some c.in-Some.clock.now ≡ Some clock = sym c.in-Some.ensures ∙ is in
    let same : c.in-Some.clock.now ≡ clock = cc in
    subst (λ (x : Clock). OneLocal x.zone) same c.one_local.ensures

pub returns-in-None : goal.returns-in-None
returns-in-None c = λ clock is.
    let no : None ≡ Some clock = sym c.in-None.ensures ∙ is in
    absurd cc
