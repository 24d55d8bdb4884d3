use Rattle.std.proofs.Common.{◌≡◌, ℕ, SFits, rules, w8, w32}
use Rattle.std.proofs.lemmas.Int.{to_z-of_z}
use Rattle.cal_time.specs.Date.{IsDate}
use Rattle.cal_holidays.specs.Holidays.{IsDayOf}
use Rattle.cal_holidays.proofs.HolidayDays.{holiday-every, holiday-value}
use Rattle.cal_holidays.proofs.holiday_rule.HolidayRule.holiday_for.Goals as goal

pub returns-in-Some-clause-every : goal.returns-in-Some-clause-every
returns-in-Some-clause-every c =
    let every = rw (to_z-of_z w32 _ c.ranges.year) at c.in-Some.ensures.every in
    let fits : SFits w8 c.days_moved.result = search rules in
    let some = rw (to_z-of_z w8 _ fits) at c.days_after.ensures.value in
    let one : (k : ℕ) → IsDate k → IsDayOf c.args.self.day c.args.year k → k ≡ c.in-Some.day = λ k date is. cc (every k date is) in
    holiday-every c.args.self c.args.year c.in-Some.day c.days_moved.result c.days_after.result one c.days_moved.ensures some

pub returns-in-Some-clause-value : goal.returns-in-Some-clause-value
returns-in-Some-clause-value c =
    let force = rw (to_z-of_z w32 _ c.ranges.year) at (c.is_in_force.ensures.0 c.if-not-is_in_force.false) in
    let value = rw (to_z-of_z w32 _ c.ranges.year) at c.in-Some.ensures.value in
    let fits : SFits w8 c.days_moved.result = search rules in
    let some = rw (to_z-of_z w8 _ fits) at c.days_after.ensures.value in
    holiday-value c.args.self c.args.year c.in-Some.day c.days_moved.result c.days_after.result force value.0 value.1 c.days_moved.ensures some
