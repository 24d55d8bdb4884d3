use Rattle.std.proofs.Common.{◌-◌}
use Rattle.cal_time.specs.Date.{last_day}
use Rattle.cal_schedule.proofs.RulePositions.{IsScanned}
use Rattle.cal_schedule.proofs.rule.rule.Rule.find_position.Given as goal

abbrev pub invariant-loop-next : goal.invariant-loop-next
invariant-loop-next l = IsScanned l.self l.fn.day l.end l.at l.ahead l.after

abbrev pub decreases-loop-next : goal.decreases-loop-next
decreases-loop-next l = last_day - l.at
