use Rattle.std.proofs.Common.{rules}
use Rattle.cal_schedule.proofs.Ends.{last-apart}
use Rattle.cal_schedule.proofs.period_ends.last_of_month.Goals as goal

pub returns-clause-days : goal.returns-clause-days
returns-clause-days c = last-apart c.last_in_month.result c.args.date c.last_in_month.ensures.range (search rules)
