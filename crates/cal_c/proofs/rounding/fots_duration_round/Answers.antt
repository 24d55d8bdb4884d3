use Rattle.cal_c.proofs.Needs.{met, unmet}
use Rattle.cal_c.proofs.rounding.fots_duration_round.Goals as goal

pub returns-in-None-positive_duration : goal.returns-in-None-positive_duration
returns-in-None-positive_duration c = met c.in-Some.ensures.0 (unmet c.in-None-positive_duration.ensures c.error-in-None-positive_duration.ensures)

pub returns-in-None-valid_mode : goal.returns-in-None-valid_mode
returns-in-None-valid_mode c =
    met c.in-Some.ensures.0 (met c.in-Some-positive_duration.ensures.0 (unmet c.in-None-valid_mode.ensures c.error-in-None-valid_mode.ensures))

pub returns : goal.returns
returns c =
    let duration = c.in-Some.ensures in
    let unit = c.in-Some-positive_duration.ensures in
    let mode = c.in-Some-valid_mode.ensures in
    met duration.0 (met unit.0 (met mode.0 (c.in-Some-valid_mode.value, mode.1, rw (duration.1, unit.1) at c.rounded_duration.ensures)))
