use Rattle.std.proofs.Common.{◌+◌, ◌-◌, ◌*◌, ◌≤◌}
use Rattle.cal_time.specs.Date.{IsDate}
use Rattle.cal_time.specs.SignedDuration.{day}
use Rattle.cal_datetime.specs.DateTime.{last_date_time}
use Rattle.cal_recurrence.specs.ClockSearch.{Closes}
use Rattle.cal_recurrence.specs.TimeSearch.{NoneIn, selects_reading}
use Rattle.cal_recurrence.proofs.date_time_rule.DateTimeRule.next_match.Given as goal

abbrev pub invariant-loop-found : goal.invariant-loop-found
invariant-loop-found l = record {
  later : l.fn.date * day + l.fn.first ≤ l.day * day + l.from;
  from : l.from ≤ day;
  range : IsDate l.fn.date × IsDate l.day;
  closes : Closes l.self (l.fn.date * day + l.fn.first) l.last;
  none : NoneIn (selects_reading l.self) (l.fn.date * day + l.fn.first) (l.day * day + l.from);
}

abbrev pub decreases-loop-found : goal.decreases-loop-found
decreases-loop-found l = last_date_time + 1 - (l.day * day + l.from)
