use Rattle.std.proofs.Common.{refl, arith}
use Rattle.std.proofs.lemmas.Int.{to_z-of_z}
use Rattle.cal_time.specs.Laws.{weekday_at-is}
use Rattle.cal_zone.proofs.RuleDays.{last_is}
use Rattle.cal_zone.proofs.yearly.Yearly.last_in.Goals as goal

pub overflow_add-past : goal.overflow_add-past
overflow_add-past c = omega (arith, c.days_since_monday.ensures, weekday_at-is c.day_of_month-end.result)

pub returns-clause-day : goal.returns-clause-day
returns-clause-day c =
    let g = c.ranges.year in
    let length = simp to_z-of_z at c.days_in_month-length.ensures.value in
    let end = simp to_z-of_z at c.day_of_month-end.ensures.value in
    let day = simp to_z-of_z at c.day_of_month.ensures.value in
    last_is c.args.self.now c.args.year _ _ _ _ _ _ length c.days_since_monday.ensures c.place.ensures refl
    c.requires.last c.day_of_month-end.ensures.range c.day_of_month.ensures.range end day
