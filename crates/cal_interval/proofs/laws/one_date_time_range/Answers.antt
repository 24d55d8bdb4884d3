use Rattle.std.proofs.Common.{◌≡◌, Result, neg_ℤ, pos, subst, sym}
use Rattle.cal_zoned.specs.Period.{IsLater, IsNthLater}
use Rattle.cal_interval.specs.declared.error.IntervalError.{IntervalError}
use Rattle.cal_interval.specs.DateTimeRanges.{IsDateTimeRangeOf, Range, ordered}
use Rattle.cal_interval.proofs.DateTimeRangeSteps.{same_range}
use Rattle.cal_interval.proofs.laws.one_date_time_range.Goals as goal

pub returns-in-StartAndPeriod : goal.returns-in-StartAndPeriod
returns-in-StartAndPeriod c =
    let v = c.in-StartAndPeriod in
    subst (λ i. (a b : Result Range IntervalError) → IsDateTimeRangeOf i a → IsDateTimeRangeOf i b → a ≡ b) (sym v.is)
    (λ a b p q. same_range (IsLater v.start v.period) (λ e. ordered v.start e) c.checked_add_period.result a b c.checked_add_period.ensures.every c.checked_add_period.ensures.value p q)

pub returns-in-PeriodAndEnd : goal.returns-in-PeriodAndEnd
returns-in-PeriodAndEnd c =
    let v = c.in-PeriodAndEnd in
    subst (λ i. (a b : Result Range IntervalError) → IsDateTimeRangeOf i a → IsDateTimeRangeOf i b → a ≡ b) (sym v.is)
    (λ a b p q. same_range (IsNthLater v.end v.period (neg_ℤ (pos 1))) (λ s. ordered s v.end) c.nth_period.result a b c.nth_period.ensures.every c.nth_period.ensures.value p q)
