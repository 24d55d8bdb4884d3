use Rattle.std.proofs.Math.Facts.{to_z-of_z}
use Rattle.cal_c.proofs.Needs.{met, unmet}
use Rattle.cal_c.proofs.schedule.periods.fots_date_nth_period.Goals as goal

pub returns-in-None-valid_period : goal.returns-in-None-valid_period
returns-in-None-valid_period c =
    let g = c.ranges.date in
    let date = simp to_z-of_z at c.in-Some.ensures in
    met date.0 (unmet c.in-None-valid_period.ensures c.error-in-None-valid_period.ensures)

pub returns : goal.returns
returns c =
    let g = c.ranges.date in
    let n = c.ranges.n in
    let date = simp to_z-of_z at c.in-Some.ensures in
    let period = c.in-Some-valid_period.ensures in
    let found = simp to_z-of_z at c.date_after.ensures in
    met date.0 (met period.0 (rw (date.1, period.1) at found))
