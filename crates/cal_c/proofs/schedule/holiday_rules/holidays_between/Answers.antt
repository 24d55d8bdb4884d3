use Rattle.std.proofs.Math.Facts.{to_z-of_z}
use Rattle.cal_c.proofs.Needs.{met, unmet}
use Rattle.cal_c.proofs.schedule.holiday_rules.holidays_between.Goals as goal

pub returns-in-None-valid_date : goal.returns-in-None-valid_date
returns-in-None-valid_date c =
    let f = c.ranges.first in
    let g = c.ranges.last in
    let first = simp to_z-of_z at c.in-Some.ensures in
    let never = simp to_z-of_z at c.in-None-valid_date.ensures in
    met first.0 (unmet never c.error-in-None-valid_date.ensures)

pub returns : goal.returns
returns c =
    let f = c.ranges.first in
    let g = c.ranges.last in
    let first = simp to_z-of_z at c.in-Some.ensures in
    let last = simp to_z-of_z at c.in-Some-valid_date.ensures in
    met first.0 (met last.0 (rw (first.1, last.1) at c.write_holidays.ensures))
