use Rattle.std.proofs.Common.{◌≡◌, ◌+◌, ◌-◌, ◌/◌, nat_lt, ◌∙◌, sym, ap, subst, arith}
use mir.Val.{bool_byte}
use Rattle.cal_date.proofs.Calendar.{day_of_month-range, day_of_month-most}
use Rattle.cal_date.proofs.MonthStarts.{IsEntry, entry-is}
use Rattle.cal_date.specs.Date.{day_of_month_at}
use Rattle.cal_date.proofs.date.Date.index_and_day.Goals as goal
use Rattle.cal_date.proofs.date.Date.index_and_day.Goals.{After-from-2, After-from-start}

entry : (c : After-from-2) → IsEntry c.args.self c.low_bits-low.result (c.low_bits-low.result / 32 + c.from-2.result)
entry c =
    let low = c.low_bits-low.result in
    let begun : c.from-2.result ≡ bool_byte (nat_lt c.from.result low) = c.from-2.ensures in
    subst (λ b. IsEntry c.args.self low (low / 32 + b)) (sym (begun ∙ ap (λ k. bool_byte (nat_lt k low)) c.from.ensures)) (entry-is c.args.self low c.low_bits-low.ensures.value)

day_is : (c : After-from-start) → c.low_bits-low.result - c.from-start.result ≡ day_of_month_at c.args.self
day_is c = omega (arith, (entry c.before.before.before).day, c.from-start.ensures)

pub bounds-quotient : goal.bounds-quotient
bounds-quotient c = omega (arith, (entry-is c.args.self c.low_bits-low.result c.low_bits-low.ensures.value).most)

pub bounds-entry : goal.bounds-entry
bounds-entry c = omega (arith, (entry c.before).most)

pub overflow_sub-result : goal.overflow_sub-result
overflow_sub-result c = omega (arith, (entry c.before.before.before).after, c.from-start.ensures)

pub overflow_cast-result-2 : goal.overflow_cast-result-2
overflow_cast-result-2 c = omega (arith, day_is c, day_of_month-most c.args.self)

pub returns-clause-month : goal.returns-clause-month
returns-clause-month c = (entry c.before.before.before).month

pub returns-clause-day : goal.returns-clause-day
returns-clause-day c = day_is c

pub returns-clause-index : goal.returns-clause-index
returns-clause-index c = (entry c.before.before.before).below

pub returns-clause-range : goal.returns-clause-range
returns-clause-range c =
    let is = day_of_month-range c.args.self in
    let day = day_is c in
    (omega (arith, day, is.0), omega (arith, day, is.1))

pub returns-clause-max : goal.returns-clause-max
returns-clause-max c = omega (arith, day_is c, day_of_month-most c.args.self)
