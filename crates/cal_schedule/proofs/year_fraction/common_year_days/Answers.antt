use Rattle.std.proofs.Common.{arith}
use Rattle.std.proofs.lemmas.Int.{ints}
use Rattle.cal_schedule.proofs.MoneyDays.{leap_or_other}
use Rattle.cal_schedule.proofs.year_fraction.common_year_days.Goals as goal

pub returns-clause-value : goal.returns-clause-value
returns-clause-value c =
    omega (arith, ints, leap_or_other c.args.from, leap_or_other c.args.to, c.actual_days.ensures, c.leap_days.ensures)
