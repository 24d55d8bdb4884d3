use Rattle.std.proofs.Common.{◌≡◌, ◌+◌, ap, ◌∙◌, arith}
use Rattle.std.proofs.lemmas.Int.{ints}
use mir.Val.{bool_byte}
use Rattle.cal_units.specs.Lengths.{days_in_year}
use Rattle.cal_date.specs.Date.{year_at}
use Rattle.cal_date.proofs.Dates.{ordinal-most, stands, year-most}
use Rattle.cal_date.proofs.Neighbours.{year_length}
use Rattle.cal_date.proofs.date.Date.at_index_in_year.Goals as goal
use Rattle.cal_date.proofs.date.Date.at_index_in_year.Goals.{After-from-length}

-- The code computes the length of the year.
length : (c : After-from-length) → 365 + c.from-length.result ≡ days_in_year (year_at c.args.self)
length c = ap (λ i. 365 + i) c.from-length.ensures ∙ ap (λ l. 365 + bool_byte l) c.is_in_leap_year.ensures.value ∙ year_length (year_at c.args.self)

pub overflow_cast-index : goal.overflow_cast-index
overflow_cast-index c = omega (arith, length c.before, year-most (year_at c.args.self), c.if-index-length.true)

pub overflow_add-index : goal.overflow_add-index
overflow_add-index c = omega (arith, ints, length c.before, year-most (year_at c.args.self), c.if-index-length.true)

pub overflow_sub-index : goal.overflow_sub-index
overflow_sub-index c =
    omega (arith, ints, length c.before.before.before, year-most (year_at c.args.self), ordinal-most c.args.self, c.if-index-length.true, c.ordinal.ensures.value, c.from.ensures)

pub add_days_in_year-requires-clause-not_before : goal.add_days_in_year-requires-clause-not_before
add_days_in_year-requires-clause-not_before c =
    omega (arith, ints, length c.before.before.before, year-most (year_at c.args.self), ordinal-most c.args.self, c.if-index-length.true, c.ordinal.ensures.value, c.from.ensures)

pub add_days_in_year-requires-clause-not_after : goal.add_days_in_year-requires-clause-not_after
add_days_in_year-requires-clause-not_after c =
    omega (arith, ints, length c.before.before.before, year-most (year_at c.args.self), ordinal-most c.args.self, c.if-index-length.true, c.ordinal.ensures.value, c.from.ensures)

pub returns-then-index-length-clause-value : goal.returns-then-index-length-clause-value
returns-then-index-length-clause-value c =
    let days = length c.before.before.before.before in
    let most = year-most (year_at c.args.self) in
    let within = ordinal-most c.args.self in
    let at = stands c.args.self in
    (omega arith, omega (arith, ints, at.number_is, at.ordinal.0))

pub returns-else-index-length-clause-value : goal.returns-else-index-length-clause-value
returns-else-index-length-clause-value c = λ below. omega (arith, length c.before, below, c.if-index-length.false)

pub returns-else-index-length-clause-in_range : goal.returns-else-index-length-clause-in_range
returns-else-index-length-clause-in_range c = c.is_in_leap_year.ensures.in_range
