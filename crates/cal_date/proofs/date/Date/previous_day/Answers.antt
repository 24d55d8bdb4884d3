use Rattle.std.proofs.Common.{arith}
use Rattle.std.proofs.lemmas.Int.{ints}
use Rattle.std.proofs.lemmas.Bool.Decides.{nat_tests}
use Rattle.cal_date.specs.DateLimits.{MIN-number}
use Rattle.cal_date.proofs.Neighbours.{not_first_day, within_year}
use Rattle.cal_date.proofs.date.Date.previous_day.Goals as goal

pub add_days_in_year-requires-clause-not_before : goal.add_days_in_year-requires-clause-not_before
add_days_in_year-requires-clause-not_before c = omega (arith, ints, c.ordinal.ensures.value, c.if-ordinal-gt1.true)

pub add_days_in_year-requires-clause-not_after : goal.add_days_in_year-requires-clause-not_after
add_days_in_year-requires-clause-not_after c =
    let within = within_year c.args.self c.ordinal.ensures.in_range in
    omega (arith, ints, within.1, c.ordinal.ensures.value, c.if-ordinal-gt1.true)

pub returns-then-ordinal-gt1-clause-value : goal.returns-then-ordinal-gt1-clause-value
returns-then-ordinal-gt1-clause-value c =
    let later = not_first_day c.args.self (omega (arith, c.ordinal.ensures.value, c.if-ordinal-gt1.true)) in
    (later, omega (arith, ints, later, c.add_days_in_year.ensures))

pub returns-then-eq-clause-value : goal.returns-then-eq-clause-value
returns-then-eq-clause-value c = λ after. grind (arith, nat_tests, MIN-number)

pub last_of_previous_year-requires : goal.last_of_previous_year-requires
last_of_previous_year-requires c = grind (arith, nat_tests, MIN-number)

pub returns-clause-value : goal.returns-clause-value
returns-clause-value c = (grind (arith, nat_tests, MIN-number), c.last_of_previous_year.ensures)
