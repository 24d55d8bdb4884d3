use Rattle.std.proofs.Common.{◌-◌, ◌<◌, ◌≤◌}
use Rattle.std.specs.Prelude.{IfSome}
use Rattle.cal_time.specs.Date.{last_day}
use Rattle.cal_schedule.specs.RuleSearch.{IsLastBetween}
use Rattle.cal_schedule.proofs.rule.rule.Rule.last_between.Given as goal

abbrev pub invariant-loop-day : goal.invariant-loop-day
invariant-loop-day l = record {
  low : l.fn.first ≤ l.from;
  last : IsLastBetween l.self l.fn.first l.from l.last;
  early : IfSome l.last (λ x. x < l.fn.end);
}

abbrev pub decreases-loop-day : goal.decreases-loop-day
decreases-loop-day l = last_day - l.from
