use Rattle.std.proofs.Common.{◌-◌, ◌≤◌}
use Rattle.cal_time.specs.Date.{last_day}
use Rattle.cal_schedule.specs.RuleSearch.{NoDayBetween}
use Rattle.cal_schedule.proofs.rule.rule.Rule.next_before.Given as goal

abbrev pub invariant-loop-day : goal.invariant-loop-day
invariant-loop-day l = record { later : l.fn.first ≤ l.day; start : l.self.start ≤ l.day; none : NoDayBetween l.self l.fn.first l.day }

abbrev pub decreases-loop-day : goal.decreases-loop-day
decreases-loop-day l = last_day - l.day
