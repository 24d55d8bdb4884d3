use Rattle.std.proofs.Math.Facts.{to_z-of_z}
use Rattle.cal_c.proofs.Needs.{met, unmet}
use Rattle.cal_c.proofs.schedule.pair_periods.step_in.Goals as goal

pub returns-in-None-valid_time : goal.returns-in-None-valid_time
returns-in-None-valid_time c =
    let g = c.ranges.date in
    let date = simp to_z-of_z at c.in-Some.ensures in
    met date.0 (unmet c.in-None-valid_time.ensures c.error-in-None-valid_time.ensures)

pub returns : goal.returns
returns c =
    let g = c.ranges.date in
    let date = simp to_z-of_z at c.in-Some.ensures in
    let time = c.in-Some-valid_time.ensures in
    let found = c.step_result.ensures in
    met date.0 (met time.0 (rw (c.new.ensures.value, date.1, time.1) at found))
