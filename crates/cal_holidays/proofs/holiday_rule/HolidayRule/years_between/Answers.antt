use Rattle.std.proofs.Common.{SFits, rules, arith, w32}
use Rattle.std.proofs.lemmas.Int.{ints, to_z-of_z}
use Rattle.cal_holidays.proofs.holiday_rule.HolidayRule.years_between.Goals as goal

pub returns-clause-value : goal.returns-clause-value
returns-clause-value c =
    let first_fits : SFits w32 c.year.result = search rules in
    let last_fits : SFits w32 c.year-2.result = search rules in
    let low = rw (to_z-of_z w32 _ first_fits) at c.year_number.ensures.value in
    let high = rw (to_z-of_z w32 _ last_fits) at c.year_number-2.ensures.value in
    λ y n is.
    let from = (c.reach-reach.ensures.value y n c.args.first is.is c.year.ensures.in_range).after is.from in
    let through = (c.reach-reach.ensures.value y n c.args.last is.is c.year-2.ensures.in_range).before is.through in
    record { from = omega (arith, ints, low, from, c.year.ensures.value, c.year_number.ensures.range); below = omega (arith, ints, high, through, c.year-2.ensures.value) }
