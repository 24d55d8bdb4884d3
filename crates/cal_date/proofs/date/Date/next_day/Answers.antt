use Rattle.std.proofs.Common.{◌<◌, arith}
use Rattle.std.proofs.lemmas.Int.{ints}
use Rattle.std.proofs.lemmas.Bool.Decides.{nat_tests}
use Rattle.cal_date.specs.Date.{ordinal_at}
use Rattle.cal_date.specs.DateLimits.{MAX-number}
use Rattle.cal_date.proofs.Neighbours.{before_year_end, early_in_year}
use Rattle.cal_date.proofs.date.Date.next_day.Goals as goal
use Rattle.cal_date.proofs.date.Date.next_day.Goals.{Then-next_ordinal-lt-MIN_DAYS_IN_YEAR}

early : (c : Then-next_ordinal-lt-MIN_DAYS_IN_YEAR) → ordinal_at c.args.self < 365
early c = omega (arith, c.next_ordinal.ensures.value, c.if-next_ordinal-lt-MIN_DAYS_IN_YEAR.true)

pub add_days_in_year-requires-clause-not_before : goal.add_days_in_year-requires-clause-not_before
add_days_in_year-requires-clause-not_before c = omega (arith, ints)

pub add_days_in_year-requires-clause-not_after : goal.add_days_in_year-requires-clause-not_after
add_days_in_year-requires-clause-not_after c = omega (arith, ints, before_year_end c.args.self (early c))

pub returns-then-next_ordinal-lt-MIN_DAYS_IN_YEAR-clause-value : goal.returns-then-next_ordinal-lt-MIN_DAYS_IN_YEAR-clause-value
returns-then-next_ordinal-lt-MIN_DAYS_IN_YEAR-clause-value c =
    (early_in_year c.args.self c.next_ordinal.ensures.in_range (early c.before), omega (arith, ints, c.add_days_in_year.ensures))

pub returns-then-eq-clause-value : goal.returns-then-eq-clause-value
returns-then-eq-clause-value c = λ before. grind (arith, nat_tests, MAX-number)

pub first_of_next_year-requires : goal.first_of_next_year-requires
first_of_next_year-requires c = grind (arith, nat_tests, MAX-number, c.next_ordinal.ensures.in_range)

pub returns-clause-value : goal.returns-clause-value
returns-clause-value c = (grind (arith, nat_tests, MAX-number, c.next_ordinal.ensures.in_range), c.first_of_next_year.ensures)
