use Rattle.cal_schedule.proofs.RuleWalks.{IsReached}
use Rattle.cal_schedule.proofs.rule.rule.Rule.last_forward.Given as goal

abbrev pub invariant-loop-left : goal.invariant-loop-left
invariant-loop-left l = IsReached l.self l.fn.front l.fn.count l.last l.left

abbrev pub decreases-loop-left : goal.decreases-loop-left
decreases-loop-left l = l.left
