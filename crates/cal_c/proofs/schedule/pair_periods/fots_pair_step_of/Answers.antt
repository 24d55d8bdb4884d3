use Rattle.std.proofs.Math.Facts.{to_z-of_z}
use Rattle.cal_c.proofs.Needs.{met, unmet}
use Rattle.cal_c.proofs.schedule.pair_periods.fots_pair_step_of.Goals as goal

pub returns-in-None-valid_time : goal.returns-in-None-valid_time
returns-in-None-valid_time c =
    let g = c.ranges.start_date in
    let date = simp to_z-of_z at c.in-Some.ensures in
    met date.0 (unmet c.in-None-valid_time.ensures c.error-in-None-valid_time.ensures)

pub returns-in-None-valid_period : goal.returns-in-None-valid_period
returns-in-None-valid_period c =
    let g = c.ranges.start_date in
    let date = simp to_z-of_z at c.in-Some.ensures in
    met date.0 (met c.in-Some-valid_time.ensures.0 (unmet c.in-None-valid_period.ensures c.error-in-None-valid_period.ensures))

pub returns : goal.returns
returns c =
    let f = c.ranges.date in
    let g = c.ranges.start_date in
    let date = simp to_z-of_z at c.in-Some.ensures in
    let time = c.in-Some-valid_time.ensures in
    let period = c.in-Some-valid_period.ensures in
    let found = simp to_z-of_z at c.step_in.ensures in
    met date.0 (met time.0 (met period.0 (rw (c.new.ensures.value, date.1, time.1, period.1) at found)))
