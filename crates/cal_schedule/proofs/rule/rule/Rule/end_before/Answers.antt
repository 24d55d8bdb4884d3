use Rattle.std.proofs.Common.{arith}
use Rattle.cal_schedule.proofs.RulePrevious.{end_by}
use Rattle.cal_schedule.proofs.rule.rule.Rule.end_before.Goals as goal

pub returns-in-Some : goal.returns-in-Some
returns-in-Some c = end_by c.args.self.now c.args.number c.in-Some.last _ c.requires c.in-Some.is (omega arith)
