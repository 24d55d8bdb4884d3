-- A reading has one moment by a policy, or one reason why it has none.
use Rattle.std.proofs.Common.{◌≡◌, ◌∙◌, Result, ap, sym}
use Rattle.std.specs.Prelude.{ℤ}
use Rattle.cal_text.specs.declared.any.DateOrMoment.{DateOrMoment}
use Rattle.cal_text.specs.declared.any.MomentForm.{MomentForm}
use Rattle.cal_zone.specs.Local.{IsLocalOf}
use Rattle.cal_zone.specs.Policy.{moment_by}
use Rattle.cal_zone.specs.declared.local.Local.{Local}
use Rattle.caldate_answers.specs.Clocks.{IsOnClock, placed_as}
use Rattle.caldate_lines.specs.declared.no_answer.NoAnswer.{NoAnswer}
use Rattle.caldate_answers.specs.declared.request.Clock.{Clock}

pub one_moment : (clock : Clock) (form : MomentForm) (reading : ℤ) (r s : Result DateOrMoment NoAnswer)
    → ((l : ℤ) (a b : Local) → IsLocalOf clock.zone l a → IsLocalOf clock.zone l b → a ≡ b) → IsOnClock clock form reading r → IsOnClock clock form reading s → r ≡ s
one_moment clock form reading r s one a b =
    a.placed ∙ ap (λ (l : Local). placed_as form (moment_by clock.policy l)) (one reading a.local b.local a.is b.is) ∙ sym b.placed
