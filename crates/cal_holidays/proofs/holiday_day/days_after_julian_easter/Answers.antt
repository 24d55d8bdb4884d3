use Rattle.std.proofs.Common.{◌≡◌, ℕ, w8, w32}
use Rattle.std.proofs.lemmas.Int.{to_z-of_z}
use Rattle.cal_time.specs.Date.{IsDate}
use Rattle.cal_holidays.specs.Easter.{IsJulianEaster}
use Rattle.cal_holidays.proofs.HolidayDays.{days_after-every, days_after-value}
use Rattle.cal_holidays.proofs.holiday_day.days_after_julian_easter.Goals as goal

pub returns-in-Ok-clause-every : goal.returns-in-Ok-clause-every
returns-in-Ok-clause-every c =
    let every = rw (to_z-of_z w32 _ c.ranges.year) at c.in-Ok.ensures.every in
    let one : (k : ℕ) → IsDate k → IsJulianEaster c.args.year k → k ≡ c.in-Ok.date = λ k date is. cc (every k date is) in
    let some = rw (to_z-of_z w8 _ c.ranges.days) at c.days_after.ensures.value in
    days_after-every (IsJulianEaster c.args.year) c.args.days c.in-Ok.date c.days_after.result one some

pub returns-in-Ok-clause-value : goal.returns-in-Ok-clause-value
returns-in-Ok-clause-value c =
    let value = rw (to_z-of_z w32 _ c.ranges.year) at c.in-Ok.ensures.value in
    let some = rw (to_z-of_z w8 _ c.ranges.days) at c.days_after.ensures.value in
    days_after-value (IsJulianEaster c.args.year) c.args.days c.in-Ok.date c.days_after.result value.0 value.1 some

pub returns-in-Err-clause-every : goal.returns-in-Err-clause-every
returns-in-Err-clause-every c n date is =
    let every = rw (to_z-of_z w32 _ c.ranges.year) at c.in-Err.ensures.every in
    cc (every is.start is.range is.has)
