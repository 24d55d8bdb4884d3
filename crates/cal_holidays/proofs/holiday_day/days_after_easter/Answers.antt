use Rattle.std.proofs.Common.{◌≡◌, ℕ, w8, w32}
use Rattle.std.proofs.lemmas.Int.{to_z-of_z}
use Rattle.cal_time.specs.Date.{IsDate}
use Rattle.cal_holidays.specs.Easter.{IsEaster}
use Rattle.cal_holidays.proofs.HolidayDays.{days_after-every, days_after-value}
use Rattle.cal_holidays.proofs.holiday_day.days_after_easter.Goals as goal

pub returns-in-Ok-clause-every : goal.returns-in-Ok-clause-every
returns-in-Ok-clause-every c =
    let every = rw (to_z-of_z w32 _ c.ranges.year) at c.in-Ok.ensures.every in
    let one : (k : ℕ) → IsDate k → IsEaster c.args.year k → k ≡ c.in-Ok.date = λ k date is. cc (every k date is) in
    let some = rw (to_z-of_z w8 _ c.ranges.days) at c.days_after.ensures.value in
    days_after-every (IsEaster c.args.year) c.args.days c.in-Ok.date c.days_after.result one some

pub returns-in-Ok-clause-value : goal.returns-in-Ok-clause-value
returns-in-Ok-clause-value c =
    let value = rw (to_z-of_z w32 _ c.ranges.year) at c.in-Ok.ensures.value in
    let some = rw (to_z-of_z w8 _ c.ranges.days) at c.days_after.ensures.value in
    days_after-value (IsEaster c.args.year) c.args.days c.in-Ok.date c.days_after.result value.0 value.1 some
