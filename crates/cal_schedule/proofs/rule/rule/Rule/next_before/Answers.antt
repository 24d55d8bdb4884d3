use Rattle.std.proofs.Common.{arith}
use Rattle.cal_schedule.proofs.Rules.{none_empty}
use Rattle.cal_schedule.proofs.rule.rule.Rule.next_before.Goals as goal

pub loop-day-init : goal.loop-day-init
loop-day-init c = record { later = omega arith; start = c.requires; none = none_empty c.args.self.now c.args.first c.args.first (omega arith) }
