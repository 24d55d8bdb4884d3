use Rattle.std.proofs.Common.{◌≡◌, ◌∙◌, Some, subst, sym}
use Rattle.caldate_answers.specs.declared.request.Clock.{Clock}
use Rattle.caldate_answers.proofs.ClockMoves.{OneLocal}
use Rattle.caldate_run.proofs.laws.one_clock.Goals as goal

pub returns-in-Some : goal.returns-in-Some
returns-in-Some c = λ clock is.
    let both : Some c.in-Some.clock ≡ Some clock = sym c.in-Some.is ∙ is in
    let same : c.in-Some.clock ≡ clock = cc in
    subst (λ (x : Clock). OneLocal x.zone) same c.one_local.ensures
