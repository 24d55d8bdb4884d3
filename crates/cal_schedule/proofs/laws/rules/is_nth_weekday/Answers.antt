use Rattle.cal_schedule.proofs.RuleNumbers.{numbers_by_count}
use Rattle.cal_schedule.proofs.laws.rules.is_nth_weekday.Goals as goal

pub returns-clause-counts : goal.returns-clause-counts
returns-clause-counts c = numbers_by_count c.args.date c.is_nth_in_period.ensures.in_range
