use Rattle.std.proofs.Common.{arith}
use Rattle.std.proofs.lemmas.Int.{ints}
use Rattle.cal_schedule.proofs.year_fraction.actual_actual_days.Goals as goal

pub returns : goal.returns
returns c = omega (arith, ints, c.leap_days.ensures, c.common_year_days.ensures)
