use Rattle.std.proofs.Common.{Err, neg_ℤ, pos, subst, sym}
use Rattle.cal_zoned.specs.Period.{IsLater, IsNthLater}
use Rattle.cal_interval.specs.declared.error.IntervalError.TheVariants.{OutOfRange}
use Rattle.cal_interval.specs.DateTimeRanges.{IsDateTimeRangeOf, ordered}
use Rattle.cal_interval.proofs.DateTimeRangeSteps.{led, missed}
use Rattle.cal_interval.proofs.plain.interval.DateTimeInterval.range.Goals as goal

pub returns-in-Some : goal.returns-in-Some
returns-in-Some c =
    let v = c.in-StartAndPeriod in
    rw c.ordered-in-Some.ensures
    (subst (λ i. IsDateTimeRangeOf i (ordered v.start c.in-Some.end)) (sym v.is) (led (IsLater v.start v.period) (λ e. ordered v.start e) _ c.in-Some.ensures.every c.in-Some.ensures.value))

pub returns-in-None : goal.returns-in-None
returns-in-None c =
    let v = c.in-StartAndPeriod in
    subst (λ i. IsDateTimeRangeOf i (Err OutOfRange)) (sym v.is) (missed (IsLater v.start v.period) (λ e. ordered v.start e) c.in-None.ensures.every)

pub returns-in-Some-nth_period : goal.returns-in-Some-nth_period
returns-in-Some-nth_period c =
    let v = c.in-PeriodAndEnd in
    rw c.ordered-in-Some-nth_period.ensures
    (subst (λ i. IsDateTimeRangeOf i (ordered c.in-Some-nth_period.start v.end)) (sym v.is)
    (led (IsNthLater v.end v.period (neg_ℤ (pos 1))) (λ s. ordered s v.end) _ c.in-Some-nth_period.ensures.every c.in-Some-nth_period.ensures.value))

pub returns-in-None-nth_period : goal.returns-in-None-nth_period
returns-in-None-nth_period c =
    let v = c.in-PeriodAndEnd in
    subst (λ i. IsDateTimeRangeOf i (Err OutOfRange)) (sym v.is) (missed (IsNthLater v.end v.period (neg_ℤ (pos 1))) (λ s. ordered s v.end) c.in-None-nth_period.ensures.every)
