use Rattle.std.proofs.Math.Facts.{to_z-of_z}
use Rattle.cal_c.proofs.Needs.{met, unmet}
use Rattle.cal_c.proofs.schedule.pair_periods.period_to.Goals as goal

pub returns-in-None-valid_time : goal.returns-in-None-valid_time
returns-in-None-valid_time c =
    let g = c.ranges.date in
    let date = simp to_z-of_z at c.in-Some.ensures in
    met date.0 (unmet c.in-None-valid_time.ensures c.error-in-None-valid_time.ensures)

pub returns-in-None-valid_unit : goal.returns-in-None-valid_unit
returns-in-None-valid_unit c =
    let g = c.ranges.date in
    let date = simp to_z-of_z at c.in-Some.ensures in
    met date.0 (met c.in-Some-valid_time.ensures.0 (unmet c.in-None-valid_unit.ensures c.error-in-None-valid_unit.ensures))

pub returns : goal.returns
returns c =
    let g = c.ranges.date in
    let date = simp to_z-of_z at c.in-Some.ensures in
    let time = c.in-Some-valid_time.ensures in
    let unit = c.in-Some-valid_unit.ensures in
    let found = c.period_by_unit.ensures in
    met date.0 (met time.0 (met unit.0 (c.in-Some-valid_unit.value, unit.1, rw (c.new.ensures.value, date.1, time.1) at found)))
