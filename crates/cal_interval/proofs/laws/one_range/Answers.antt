use Rattle.std.proofs.Common.{◌≡◌, Result, subst, sym}
use Rattle.cal_schedule.specs.Ranges.{Range}
use Rattle.cal_interval.specs.declared.error.IntervalError.{IntervalError}
use Rattle.cal_interval.specs.Ranges.{IsRangeOf, ordered}
use Rattle.cal_interval.proofs.RangeSteps.{same_range}
use Rattle.cal_interval.proofs.laws.one_range.Goals as goal

pub returns-in-StartAndPeriod : goal.returns-in-StartAndPeriod
returns-in-StartAndPeriod c =
    let v = c.in-StartAndPeriod in
    subst (λ i. (a b : Result Range IntervalError) → IsRangeOf i a → IsRangeOf i b → a ≡ b) (sym v.is)
    (λ a b p q. same_range _ _ _ _ (λ e. ordered v.start e) c.checked_add_period.result a b c.checked_add_period.ensures p q)

pub returns-in-PeriodAndEnd : goal.returns-in-PeriodAndEnd
returns-in-PeriodAndEnd c =
    let v = c.in-PeriodAndEnd in
    subst (λ i. (a b : Result Range IntervalError) → IsRangeOf i a → IsRangeOf i b → a ≡ b) (sym v.is)
    (λ a b p q. same_range _ _ _ _ (λ s. ordered s v.end) c.nth_period.result a b c.nth_period.ensures p q)
