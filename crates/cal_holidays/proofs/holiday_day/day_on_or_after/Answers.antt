use Rattle.std.proofs.Common.{w32}
use Rattle.std.proofs.lemmas.Int.{to_z-of_z}
use Rattle.cal_time.specs.Month.{number}
use Rattle.cal_time.specs.Weekday.{index}
use Rattle.cal_holidays.proofs.HolidayDays.{on_or_after-every, on_or_after-value}
use Rattle.cal_holidays.proofs.holiday_day.day_on_or_after.Goals as goal

pub returns-in-Ok-clause-every : goal.returns-in-Ok-clause-every
returns-in-Ok-clause-every c =
    let value = rw (to_z-of_z w32 _ c.ranges.year) at c.in-Ok.ensures.value in
    on_or_after-every c.on_or_after.result c.args.year (number c.args.month) c.args.day (index c.args.weekday) c.in-Ok.date value.0 value.1 c.on_or_after.ensures.index

pub returns-in-Ok-clause-value : goal.returns-in-Ok-clause-value
returns-in-Ok-clause-value c =
    let value = rw (to_z-of_z w32 _ c.ranges.year) at c.in-Ok.ensures.value in
    on_or_after-value c.on_or_after.result c.args.year (number c.args.month) c.args.day (index c.args.weekday) c.in-Ok.date value.0 value.1 c.on_or_after.ensures.index c.on_or_after.ensures.weekday
