use Rattle.std.proofs.Common.{◌<◌, ◌≤◌, arith}
use Rattle.std.proofs.lemmas.Int.{ints}
use Rattle.std.proofs.lemmas.Bool.Decides.{nat_tests}
use Rattle.cal_schedule.proofs.Untils.{least_same, least_more, nearer_back, has_later}
use Rattle.cal_schedule.proofs.until.months_backward.Goals as goal

pub returns-then-le-clause-value : goal.returns-then-le-clause-value
returns-then-le-clause-value c =
    let within : c.args.to ≤ c.add_months-earlier.result = grind (arith, nat_tests) in
    least_same c.args.from c.args.to c.add_months-earlier.result _ c.add_months-earlier.ensures.range c.add_months-earlier.ensures.value (omega (arith, ints)) within

pub returns-clause-value : goal.returns-clause-value
returns-clause-value c =
    let past : c.add_months-earlier.result < c.args.to = grind (arith, nat_tests) in
    let bound = c.month_difference-months.ensures in
    let dates = bound.in_range in
    let near = has_later c.args.from _ (nearer_back c.args.from c.args.to c.add_months-earlier.result _ _ (omega (arith, ints, bound.min, bound.max)) dates.0 dates.1 c.add_months-earlier.ensures.range
    c.add_months-earlier.ensures.value (omega (arith, ints)) c.requires past) in
    least_more c.args.from c.args.to c.add_months-earlier.result near.day _ _ (omega (arith, ints, bound.min, bound.max)) c.add_months-earlier.ensures.range near.date c.add_months-earlier.ensures.value near.later (omega (arith, ints)) past
