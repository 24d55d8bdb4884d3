use Rattle.std.proofs.Common.{w32}
use Rattle.std.proofs.lemmas.Int.{to_z-of_z}
use Rattle.cal_holidays.proofs.holiday_day.fixed_day.Goals as goal

pub returns-in-Ok-clause-every : goal.returns-in-Ok-clause-every
returns-in-Ok-clause-every c n date is =
    let every = rw (to_z-of_z w32 _ c.ranges.year) at c.in-Ok.ensures.every in
    cc (every n date is)
