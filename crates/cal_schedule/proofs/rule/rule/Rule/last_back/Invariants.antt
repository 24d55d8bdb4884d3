use Rattle.std.proofs.Common.{◌≤◌}
use Rattle.cal_schedule.specs.RuleSearch.{NoDayBetween}
use Rattle.cal_schedule.proofs.rule.rule.Rule.last_back.Given as goal

abbrev pub invariant-loop-before : goal.invariant-loop-before
invariant-loop-before l = record { some : 1 ≤ l.days; high : l.before ≤ l.fn.end; none : NoDayBetween l.self l.before l.fn.end }

abbrev pub decreases-loop-before : goal.decreases-loop-before
decreases-loop-before l = l.before
