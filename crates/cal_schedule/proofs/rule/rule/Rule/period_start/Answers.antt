use Rattle.std.proofs.Common.{◌∙◌}
use Rattle.cal_schedule.proofs.RulePositions.{period_start}
use Rattle.cal_schedule.proofs.rule.rule.Rule.period_start.Goals as goal

pub returns-in-Some : goal.returns-in-Some
returns-in-Some c =
    period_start c.args.self.now c.args.date c.from-index.result c.in-Some.first (c.from-index.ensures ∙ c.period.ensures.value) c.in-Some.ensures
