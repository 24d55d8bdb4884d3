use Rattle.cal_schedule.proofs.RuleWeeks.{weeks_by_count}
use Rattle.cal_schedule.proofs.laws.rules.is_week.Goals as goal

pub returns-clause-counts : goal.returns-clause-counts
returns-clause-counts c = weeks_by_count c.args.first c.args.date
