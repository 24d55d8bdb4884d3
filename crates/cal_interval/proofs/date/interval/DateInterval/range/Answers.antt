use Rattle.std.proofs.Common.{subst, sym, Err}
use Rattle.cal_interval.specs.Ranges.{IsRangeOf, error_of, ordered}
use Rattle.cal_interval.proofs.RangeSteps.{led, missed}
use Rattle.cal_interval.proofs.date.interval.DateInterval.range.Goals as goal

pub returns-in-Ok : goal.returns-in-Ok
returns-in-Ok c =
    let s = c.in-StartAndPeriod.start in
    rw c.ordered-in-Ok.ensures (subst (λ v. IsRangeOf v (ordered s c.in-Ok.end)) (sym c.in-StartAndPeriod.is) (led _ _ _ _ (λ e. ordered s e) _ c.in-Ok.ensures))

pub returns-in-Err : goal.returns-in-Err
returns-in-Err c =
    let s = c.in-StartAndPeriod.start in
    rw c.period_error.ensures (subst (λ v. IsRangeOf v (Err (error_of c.in-Err.error))) (sym c.in-StartAndPeriod.is) (missed _ _ _ _ (λ e. ordered s e) _ c.in-Err.ensures))

pub returns-in-Ok-nth_period : goal.returns-in-Ok-nth_period
returns-in-Ok-nth_period c =
    let e = c.in-PeriodAndEnd.end in
    rw c.ordered-in-Ok-nth_period.ensures (subst (λ v. IsRangeOf v (ordered c.in-Ok-nth_period.start e)) (sym c.in-PeriodAndEnd.is) (led _ _ _ _ (λ s. ordered s e) _ c.in-Ok-nth_period.ensures))

pub returns-in-Err-nth_period : goal.returns-in-Err-nth_period
returns-in-Err-nth_period c =
    let e = c.in-PeriodAndEnd.end in
    rw c.period_error-in-Err-nth_period.ensures (subst (λ v. IsRangeOf v (Err (error_of c.in-Err-nth_period.error))) (sym c.in-PeriodAndEnd.is) (missed _ _ _ _ (λ s. ordered s e) _ c.in-Err-nth_period.ensures))
