use Rattle.std.proofs.Common.{rules}
use Rattle.cal_schedule.proofs.MonthMoves.{first_before}
use Rattle.cal_schedule.proofs.period_ends.first_of_month.Goals as goal

pub returns-clause-days : goal.returns-clause-days
returns-clause-days c = first_before _ _ (search rules)
