use Rattle.std.proofs.Common.{◌≡◌, ◌+◌, ◌-◌, min}
use Rattle.cal_time.specs.Date.{last_day}
use Rattle.cal_time.specs.IsoWeekDate.{count_before}
use Rattle.cal_schedule.specs.Rule.{passes}
use Rattle.cal_schedule.proofs.rule.rule.Rule.count_days.Given as goal

abbrev pub invariant-loop-day : goal.invariant-loop-day
invariant-loop-day l = record {
  counted : l.count + count_before (passes l.self) l.fn.from ≡ count_before (passes l.self) (min l.day l.fn.end);
}

abbrev pub decreases-loop-day : goal.decreases-loop-day
decreases-loop-day l = last_day - l.day
