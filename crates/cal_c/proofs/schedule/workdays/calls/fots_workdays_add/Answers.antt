use Rattle.std.proofs.lemmas.Int.{to_z-of_z}
use Rattle.cal_c.proofs.CheckedHolidays.{for_week}
use Rattle.cal_c.proofs.schedule.workdays.calls.fots_workdays_add.Goals as goal

pub returns : goal.returns
returns c =
    let f = c.ranges.date in
    let g = c.ranges.days in
    let new = c.in-Ok.ensures in
    let any = simp to_z-of_z at c.add.ensures.any in
    let value = simp to_z-of_z at c.add.ensures.value in
    for_week c.args.workdays.now c.in-Ok.value _ _ _ new.invalid_weekmask new.too_many_holidays new.value any value
