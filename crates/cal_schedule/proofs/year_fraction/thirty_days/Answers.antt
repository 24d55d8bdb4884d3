use Rattle.std.proofs.Common.{arith}
use Rattle.std.proofs.lemmas.Int.{ints}
use Rattle.cal_schedule.proofs.year_fraction.thirty_days.Goals as goal

pub overflow_sub-result : goal.overflow_sub-result
overflow_sub-result c = omega (arith, ints, c.month_difference.ensures)

pub returns : goal.returns
returns c = omega (arith, ints, c.month_difference.ensures)
