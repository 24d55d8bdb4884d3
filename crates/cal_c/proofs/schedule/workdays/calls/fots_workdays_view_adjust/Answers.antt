use Rattle.std.proofs.lemmas.Int.{to_z-of_z}
use Rattle.cal_c.proofs.CheckedHolidays.{for_view}
use Rattle.cal_c.proofs.schedule.workdays.calls.fots_workdays_view_adjust.Goals as goal

pub returns : goal.returns
returns c =
    let f = c.ranges.date in
    let new = c.in-Ok.ensures in
    let any = simp to_z-of_z at c.adjust.ensures.any in
    let value = simp to_z-of_z at c.adjust.ensures.value in
    for_view c.args.view.now c.in-Ok.value _ _ _ new.invalid_weekmask new.invalid_holidays new.value any value
