use Rattle.std.proofs.Common.{◌≡◌, ℕ, ◌+◌, ◌-◌, ◌<◌, ◌≤◌, false}
use Rattle.cal_time.specs.Date.{weekday_at}
use Rattle.cal_schedule.specs.RuleSearch.{may_fall_on}
use Rattle.cal_schedule.proofs.rule.rule.Rule.days_to_weekday.Given as goal

abbrev pub invariant-loop-days : goal.invariant-loop-days
invariant-loop-days l = record {
  least : 1 ≤ l.days;
  most : l.days ≤ 7;
  none : (k : ℕ) → l.fn.day < k → k < l.fn.day + l.days → may_fall_on l.self (weekday_at k) ≡ false;
}

abbrev pub decreases-loop-days : goal.decreases-loop-days
decreases-loop-days l = 7 - l.days
