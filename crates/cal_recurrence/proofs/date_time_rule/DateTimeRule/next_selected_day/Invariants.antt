use Rattle.std.proofs.Common.{◌+◌, ◌-◌, ◌*◌, ◌≤◌}
use Rattle.cal_time.specs.Date.{last_day, IsDate}
use Rattle.cal_time.specs.SignedDuration.{day}
use Rattle.cal_recurrence.specs.TimeSearch.{NoneIn, selects}
use Rattle.cal_recurrence.proofs.date_time_rule.DateTimeRule.next_selected_day.Given as goal

abbrev pub invariant-loop-next : goal.invariant-loop-next
invariant-loop-next l = record {
  later : l.fn.date ≤ l.last;
  range : IsDate l.fn.date × IsDate l.last;
  none : NoneIn (selects l.self) ((l.fn.date + 1) * day) ((l.last + 1) * day);
}

abbrev pub decreases-loop-next : goal.decreases-loop-next
decreases-loop-next l = last_day - l.last
