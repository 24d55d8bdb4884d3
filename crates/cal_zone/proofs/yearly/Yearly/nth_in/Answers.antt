use Rattle.std.proofs.Common.{refl, arith, to_z, of_z, w32}
use Rattle.std.proofs.lemmas.Int.{to_z-of_z}
use Rattle.cal_time.specs.Days.{days_in_month-least}
use Rattle.cal_time.specs.Laws.{weekday_at-is}
use Rattle.cal_time.specs.Month.{number}
use Rattle.cal_zone.proofs.RuleDays.{nth_is}
use Rattle.cal_zone.proofs.yearly.Yearly.nth_in.Goals as goal

pub overflow_sub-ahead : goal.overflow_sub-ahead
overflow_sub-ahead c = omega (arith, c.days_since_monday.ensures, weekday_at-is c.day_of_month-first.result)

pub day_of_month-first-requires-clause-day : goal.day_of_month-first-requires-clause-day
day_of_month-first-requires-clause-day c = (omega arith, omega (arith, days_in_month-least (to_z w32 (of_z w32 c.args.year)) (number c.args.self.now.month)))

pub day_of_month-requires-clause-day : goal.day_of_month-requires-clause-day
day_of_month-requires-clause-day c =
    (omega (arith, c.requires.min), omega (arith, c.requires.max, days_in_month-least (to_z w32 (of_z w32 c.args.year)) (number c.args.self.now.month)))

pub returns-clause-day : goal.returns-clause-day
returns-clause-day c =
    let g = c.ranges.year in
    let first = simp to_z-of_z at c.day_of_month-first.ensures.value in
    let day = simp to_z-of_z at c.day_of_month.ensures.value in
    nth_is c.args.self.now c.args.year _ _ _ _ _ c.days_since_monday.ensures c.place.ensures refl
    c.requires.min c.requires.max c.day_of_month.ensures.range first day
