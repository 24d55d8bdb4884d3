use Rattle.cal_schedule.proofs.RuleSteps.{rises_at_beginning}
use Rattle.cal_schedule.proofs.laws.rules.period_index.Goals as goal

pub returns-clause-rises : goal.returns-clause-rises
returns-clause-rises c = rises_at_beginning c.args.unit c.args.date c.period_of.ensures.in_range
