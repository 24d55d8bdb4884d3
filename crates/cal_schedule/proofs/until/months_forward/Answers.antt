use Rattle.std.proofs.Common.{◌<◌, ◌≤◌, arith}
use Rattle.std.proofs.lemmas.Int.{ints}
use Rattle.std.proofs.lemmas.Bool.Decides.{nat_tests}
use Rattle.cal_schedule.proofs.Untils.{greatest_same, greatest_less, nearer_on, has_later}
use Rattle.cal_schedule.proofs.until.months_forward.Goals as goal

pub returns-then-le-clause-value : goal.returns-then-le-clause-value
returns-then-le-clause-value c =
    let within : c.add_months-later.result ≤ c.args.to = grind (arith, nat_tests) in
    greatest_same c.args.from c.args.to c.add_months-later.result _ c.add_months-later.ensures.range c.add_months-later.ensures.value (omega (arith, ints)) within

pub returns-clause-value : goal.returns-clause-value
returns-clause-value c =
    let past : c.args.to < c.add_months-later.result = grind (arith, nat_tests) in
    let bound = c.month_difference-months.ensures in
    let dates = bound.in_range in
    let near = has_later c.args.from _ (nearer_on c.args.from c.args.to c.add_months-later.result _ _ (omega (arith, ints, bound.min, bound.max)) dates.0 dates.1 c.add_months-later.ensures.range
    c.add_months-later.ensures.value (omega (arith, ints)) c.requires past) in
    greatest_less c.args.from c.args.to c.add_months-later.result near.day _ _ (omega (arith, ints, bound.min, bound.max)) c.add_months-later.ensures.range near.date c.add_months-later.ensures.value near.later (omega (arith, ints)) past
