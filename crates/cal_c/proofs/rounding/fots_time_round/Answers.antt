use Rattle.cal_c.proofs.Needs.{met, unmet}
use Rattle.cal_c.proofs.rounding.fots_time_round.Goals as goal

pub returns-in-None-valid_rounding_unit : goal.returns-in-None-valid_rounding_unit
returns-in-None-valid_rounding_unit c = met c.in-Some.ensures.0 (unmet c.in-None-valid_rounding_unit.ensures c.error-in-None-valid_rounding_unit.ensures)

pub returns-in-None-valid_mode : goal.returns-in-None-valid_mode
returns-in-None-valid_mode c =
    met c.in-Some.ensures.0 (met c.in-Some-valid_rounding_unit.ensures.0 (unmet c.in-None-valid_mode.ensures c.error-in-None-valid_mode.ensures))

pub returns : goal.returns
returns c =
    let time = c.in-Some.ensures in
    let unit = c.in-Some-valid_rounding_unit.ensures in
    let mode = c.in-Some-valid_mode.ensures in
    met time.0 (met unit.0 (met mode.0 (c.in-Some-valid_mode.value, mode.1, (c.round_time.result, rw (time.1, unit.1) at c.round_time.ensures, c.ok.ensures))))
