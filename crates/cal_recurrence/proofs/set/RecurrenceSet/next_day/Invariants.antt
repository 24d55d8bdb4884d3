use Rattle.std.proofs.Common.{◌≡◌, true, ◌-◌}
use Rattle.std.specs.Ordering.{nat_cmp}
use Rattle.cal_time.specs.Date.{last_day}
use Rattle.cal_recurrence.specs.Nearest.{is_past}
use Rattle.cal_recurrence.specs.Sets.{HasEnded}
use Rattle.cal_recurrence.proofs.NearestValues.{IsSearched}
use Rattle.cal_recurrence.proofs.Sets.{next_days}
use Rattle.cal_recurrence.proofs.set.RecurrenceSet.next_day.Given as goal

abbrev pub invariant-loop-next : goal.invariant-loop-next
invariant-loop-next l = record {
  searched : IsSearched (is_past nat_cmp true) (next_days l.self) l.fn.date l.last;
  ended : l.has_ended ≡ true → HasEnded l.self.rule l.last;
}

abbrev pub decreases-loop-next : goal.decreases-loop-next
decreases-loop-next l = last_day - l.last
