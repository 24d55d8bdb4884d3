use Rattle.std.proofs.lemmas.Int.{to_z-of_z}
use Rattle.cal_c.proofs.Needs.{met, unmet}
use Rattle.cal_c.proofs.schedule.until.fots_date_period_until_by.Goals as goal

pub returns-in-None-valid_unit : goal.returns-in-None-valid_unit
returns-in-None-valid_unit c =
    let f = c.ranges.date in
    let g = c.ranges.other in
    let at = simp to_z-of_z at c.in-Some.ensures in
    let to = simp to_z-of_z at c.in-Some-valid_date.ensures in
    met at.0 (met to.0 (unmet c.in-None-valid_unit.ensures c.error-in-None-valid_unit.ensures))

pub returns : goal.returns
returns c =
    let f = c.ranges.date in
    let g = c.ranges.other in
    let at = simp to_z-of_z at c.in-Some.ensures in
    let to = simp to_z-of_z at c.in-Some-valid_date.ensures in
    let by = c.in-Some-valid_unit.ensures in
    let found = rw (at.1, to.1) at c.period_by_unit.ensures in
    met at.0 (met to.0 (met by.0 (c.in-Some-valid_unit.value, by.1, found)))
