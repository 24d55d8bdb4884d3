use Rattle.std.proofs.Math.Facts.{to_z-of_z}
use Rattle.cal_c.proofs.Needs.{met, unmet}
use Rattle.cal_c.proofs.schedule.calendars.fots_calendar_holidays.Goals as goal

pub returns-in-None-valid_date-2 : goal.returns-in-None-valid_date-2
returns-in-None-valid_date-2 c =
    let f = c.ranges.first in
    let g = c.ranges.last in
    let first = simp to_z-of_z at c.in-Some-valid_date.ensures in
    let never = simp to_z-of_z at c.in-None-valid_date-2.ensures in
    met (c.in-Some.value.now, c.in-Some.ensures) (met first.0 (unmet never c.error-in-None-valid_date-2.ensures))

pub returns : goal.returns
returns c =
    let f = c.ranges.first in
    let g = c.ranges.last in
    let first = simp to_z-of_z at c.in-Some-valid_date.ensures in
    let last = simp to_z-of_z at c.in-Some-valid_date-2.ensures in
    met (c.in-Some.value.now, c.in-Some.ensures)
    (met first.0 (met last.0 (c.in-Some.value.now, c.in-Some.ensures, rw (first.1, last.1) at c.write_holidays.ensures)))
