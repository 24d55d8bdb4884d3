use Rattle.std.proofs.Common.{refl, sym, ◌∙◌}
use Rattle.std.proofs.lemmas.Int.{to_z-of_z}
use Rattle.cal_schedule.proofs.Periods.{false_true}
use Rattle.cal_schedule.proofs.period.Period.new.Goals as goal

pub returns-then-not-is_one_sign : goal.returns-then-not-is_one_sign
returns-then-not-is_one_sign c h =
    let years = c.ranges.years in
    let months = c.ranges.months in
    let weeks = c.ranges.weeks in
    let days = c.ranges.days in
    false_true (sym c.if-not-is_one_sign.true ∙ (simp to_z-of_z at c.is_one_sign.ensures).1 h)

pub invariant_of-result : goal.invariant_of-result
invariant_of-result c =
    let years = c.ranges.years in
    let months = c.ranges.months in
    let weeks = c.ranges.weeks in
    let days = c.ranges.days in
    simp to_z-of_z ((simp to_z-of_z at c.is_one_sign.ensures).0 c.if-not-is_one_sign.false)

pub returns : goal.returns
returns c =
    let years = c.ranges.years in
    let months = c.ranges.months in
    let weeks = c.ranges.weeks in
    let days = c.ranges.days in
    ((simp to_z-of_z at c.is_one_sign.ensures).0 c.if-not-is_one_sign.false, simp to_z-of_z refl)
