use Rattle.std.proofs.Common.{arith}
use Rattle.std.proofs.lemmas.Int.{ints}
use Rattle.cal_time.specs.DateLimits.{MIN-number, MAX-number}
use Rattle.cal_schedule.proofs.MonthMoves.{IsMonthNumber-date}
use Rattle.cal_schedule.proofs.months.saturating_add_months.Goals as goal

pub returns-in-None-clause-before : goal.returns-in-None-clause-before
returns-in-None-clause-before c h = MIN-number

pub returns-in-None-clause-past : goal.returns-in-None-clause-past
returns-in-None-clause-past c h = absurd (omega (arith, ints, IsMonthNumber-date c.args.date c.checked_add_months.ensures.in_range))

pub returns-in-None-clause-in_range : goal.returns-in-None-clause-in_range
returns-in-None-clause-in_range c = (c.checked_add_months.ensures.in_range, omega (arith, MIN-number))

pub returns-in-None-2-clause-before : goal.returns-in-None-2-clause-before
returns-in-None-2-clause-before c h = absurd (omega (arith, ints, IsMonthNumber-date c.args.date c.checked_add_months.ensures.in_range))

pub returns-in-None-2-clause-past : goal.returns-in-None-2-clause-past
returns-in-None-2-clause-past c h = MAX-number

pub returns-in-None-2-clause-in_range : goal.returns-in-None-2-clause-in_range
returns-in-None-2-clause-in_range c = (c.checked_add_months.ensures.in_range, omega (arith, MAX-number))
