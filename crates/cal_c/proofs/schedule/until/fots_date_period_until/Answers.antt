use Rattle.std.proofs.Common.{pos, neg_ℤ, ◌≤ℤ◌, ap, sym, subst}
use Rattle.std.proofs.lemmas.Int.{to_z-of_z}
use Rattle.cal_schedule.specs.Period.{months_of, Parts}
use Rattle.cal_schedule.specs.Until.{IsGreatest, IsLeast, IsPeriodUntil, IsMonthsUpTo, IsMonthsBackTo}
use Rattle.cal_c.specs.Schedule.{IsPeriodWith}
use Rattle.cal_c.specs.Values.{day_of}
use Rattle.cal_c.proofs.Schedules.{before, not_after, period-with}
use Rattle.cal_c.proofs.schedule.until.fots_date_period_until.Goals as goal

pub returns-clause-value : goal.returns-clause-value
returns-clause-value c = λ h k.
    let f = c.ranges.date in
    let g = c.ranges.other in
    let at = simp to_z-of_z at c.in-Some.ensures in
    let to = simp to_z-of_z at c.in-Some-valid_date.ensures in
    let Has : Parts → Type 0 = IsPeriodUntil (day_of c.args.date) (day_of c.args.other) in
    let found = rw (at.1, to.1) at c.period_until.ensures.value in
    subst (IsPeriodWith Has) (sym c.ok.ensures) (period-with Has c.period_until.result (ap (λ q. q.exact) found.only) found)

pub returns-clause-value_forward : goal.returns-clause-value_forward
returns-clause-value_forward c = λ h k e.
    let f = c.ranges.date in
    let g = c.ranges.other in
    let at = simp to_z-of_z at c.in-Some.ensures in
    let to = simp to_z-of_z at c.in-Some-valid_date.ensures in
    let Has : Parts → Type 0 = λ p. IsGreatest (IsMonthsUpTo (day_of c.args.date) (day_of c.args.other)) (months_of p) in
    let found = (rw (at.1, to.1) at c.period_until.ensures.value_forward) (not_after _ _ h k e) in
    subst (IsPeriodWith Has) (sym c.ok.ensures) (period-with Has c.period_until.result (ap (λ q. q.exact) c.period_until.ensures.value.only) found)

pub returns-clause-value_backward : goal.returns-clause-value_backward
returns-clause-value_backward c = λ h k e.
    let f = c.ranges.date in
    let g = c.ranges.other in
    let at = simp to_z-of_z at c.in-Some.ensures in
    let to = simp to_z-of_z at c.in-Some-valid_date.ensures in
    let Has : Parts → Type 0 = λ p. IsLeast (IsMonthsBackTo (day_of c.args.date) (day_of c.args.other)) (months_of p) in
    let found = (rw (at.1, to.1) at c.period_until.ensures.value_backward) (before _ _ k h e) in
    subst (IsPeriodWith Has) (sym c.ok.ensures) (period-with Has c.period_until.result (ap (λ q. q.exact) c.period_until.ensures.value.only) found)

pub returns-clause-forward : goal.returns-clause-forward
returns-clause-forward c = λ h k e.
    let f = c.ranges.date in
    let g = c.ranges.other in
    let at = simp to_z-of_z at c.in-Some.ensures in
    let to = simp to_z-of_z at c.in-Some-valid_date.ensures in
    subst (λ r. (pos 0 ≤ℤ r.years) × (pos 0 ≤ℤ r.months) × (r.months ≤ℤ pos 11) × (pos 0 ≤ℤ r.days)) (sym c.ok.ensures) ((rw (at.1, to.1) at c.period_until.ensures.forward) (not_after _ _ h k e))

pub returns-clause-backward : goal.returns-clause-backward
returns-clause-backward c = λ h k e.
    let f = c.ranges.date in
    let g = c.ranges.other in
    let at = simp to_z-of_z at c.in-Some.ensures in
    let to = simp to_z-of_z at c.in-Some-valid_date.ensures in
    subst (λ r. (r.years ≤ℤ pos 0) × (neg_ℤ (pos 11) ≤ℤ r.months) × (r.months ≤ℤ pos 0) × (r.days ≤ℤ pos 0)) (sym c.ok.ensures) ((rw (at.1, to.1) at c.period_until.ensures.backward) (before _ _ k h e))
