use Rattle.std.proofs.Common.{◌≡◌, ◌-◌, ◌≤◌}
use Rattle.cal_time.specs.IsoWeekDate.{count_before}
use Rattle.cal_time.specs.SignedDuration.{day}
use Rattle.cal_recurrence.specs.TimeSearch.{NoneIn, selects_time}
use Rattle.cal_recurrence.proofs.TimePositions.{times}
use Rattle.cal_recurrence.proofs.date_time_rule.DateTimeRule.next_on_day.Given as goal

abbrev pub invariant-loop-time : goal.invariant-loop-time
invariant-loop-time l = record {
  from : l.fn.first ≤ l.from;
  most : l.from ≤ day;
  index_is : l.index ≡ count_before (times l.self) l.from;
  none : NoneIn (selects_time l.self l.fn.date) l.fn.first l.from;
}

abbrev pub decreases-loop-time : goal.decreases-loop-time
decreases-loop-time l = day - l.from
