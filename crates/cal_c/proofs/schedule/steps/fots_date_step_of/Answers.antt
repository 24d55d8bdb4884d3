use Rattle.std.proofs.lemmas.Int.{to_z-of_z}
use Rattle.cal_c.proofs.Needs.{met, unmet}
use Rattle.cal_c.proofs.schedule.steps.fots_date_step_of.Goals as goal

pub returns-in-None-valid_period : goal.returns-in-None-valid_period
returns-in-None-valid_period c =
    let f = c.ranges.start in
    let at = simp to_z-of_z at c.in-Some.ensures in
    met at.0 (unmet c.in-None-valid_period.ensures c.error-in-None-valid_period.ensures)

pub returns-in-None-valid_date : goal.returns-in-None-valid_date
returns-in-None-valid_date c =
    let f = c.ranges.start in
    let g = c.ranges.date in
    let at = simp to_z-of_z at c.in-Some.ensures in
    let its = c.in-Some-valid_period.ensures in
    let never = simp to_z-of_z at c.in-None-valid_date.ensures in
    met at.0 (met its.0 (unmet never c.error-in-None-valid_date.ensures))

pub returns : goal.returns
returns c =
    let f = c.ranges.start in
    let g = c.ranges.date in
    let at = simp to_z-of_z at c.in-Some.ensures in
    let its = c.in-Some-valid_period.ensures in
    let to = simp to_z-of_z at c.in-Some-valid_date.ensures in
    met at.0 (met its.0 (met to.0 (rw (at.1, its.1, to.1) at c.step_result.ensures)))
