use Rattle.std.proofs.Common.{◌≤◌, arith, length}
use Rattle.std.proofs.lemmas.List.{length-take-le}
use Rattle.cal_c.proofs.Calendars.{found-few}
use Rattle.cal_c.proofs.schedule.calendars.holidays_in.Goals as goal

pub returns-clause-most : goal.returns-clause-most
returns-clause-most c =
    let a = c.args in
    let room : a.room ≤ length a.days.now = omega (arith, c.told-days, c.requires) in
    found-few a.rules.now a.first a.last a.room c.holidays_between.result c.holidays_between.ensures.value
    (rw (length-take-le a.room a.days.now room) at c.holidays_between.ensures.full)
