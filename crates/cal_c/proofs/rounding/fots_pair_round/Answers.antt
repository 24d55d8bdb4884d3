use Rattle.std.proofs.Math.Facts.{to_z-of_z}
use Rattle.cal_c.proofs.Needs.{met, unmet}
use Rattle.cal_c.proofs.rounding.fots_pair_round.Goals as goal

pub returns-in-None-valid_time : goal.returns-in-None-valid_time
returns-in-None-valid_time c =
    let g = c.ranges.date in
    let date = simp to_z-of_z at c.in-Some.ensures in
    met date.0 (unmet c.in-None-valid_time.ensures c.error-in-None-valid_time.ensures)

pub returns-in-None-valid_rounding_unit : goal.returns-in-None-valid_rounding_unit
returns-in-None-valid_rounding_unit c =
    let g = c.ranges.date in
    let date = simp to_z-of_z at c.in-Some.ensures in
    met date.0 (met c.in-Some-valid_time.ensures.0 (unmet c.in-None-valid_rounding_unit.ensures c.error-in-None-valid_rounding_unit.ensures))

pub returns-in-None-valid_mode : goal.returns-in-None-valid_mode
returns-in-None-valid_mode c =
    let g = c.ranges.date in
    let date = simp to_z-of_z at c.in-Some.ensures in
    met date.0 (met c.in-Some-valid_time.ensures.0 (met c.in-Some-valid_rounding_unit.ensures.0 (unmet c.in-None-valid_mode.ensures c.error-in-None-valid_mode.ensures)))

pub returns : goal.returns
returns c =
    let g = c.ranges.date in
    let date = simp to_z-of_z at c.in-Some.ensures in
    let time = c.in-Some-valid_time.ensures in
    let unit = c.in-Some-valid_rounding_unit.ensures in
    let mode = c.in-Some-valid_mode.ensures in
    let found = c.rounded_pair.ensures in
    met date.0 (met time.0 (met unit.0 (met mode.0 (c.in-Some-valid_mode.value, mode.1, rw (c.new.ensures.value, date.1, time.1, unit.1) at found))))
