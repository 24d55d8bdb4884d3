use Rattle.std.proofs.Common.{arith}
use Rattle.cal_schedule.specs.Rule.{unit_of}
use Rattle.cal_schedule.proofs.RulePeriods.{period_index-rises}
use Rattle.cal_schedule.proofs.rule.rule.Rule.periods_past.Goals as goal

pub overflow_sub-result : goal.overflow_sub-result
overflow_sub-result c =
    let rule = c.args.self.now in
    omega (arith, period_index-rises (unit_of rule) rule.start c.args.date c.requires)
