use Rattle.std.proofs.Common.{true, ◌-◌}
use Rattle.std.specs.Prelude.{unsigned_abs}
use Rattle.std.specs.Ordering.{int_cmp}
use Rattle.cal_datetime.specs.DateTime.{last_date_time, IsDateTime}
use Rattle.cal_recurrence.specs.Nearest.{is_past}
use Rattle.cal_recurrence.proofs.DateTimeSets.{next_readings}
use Rattle.cal_recurrence.proofs.NearestValues.{IsSearched}
use Rattle.cal_recurrence.proofs.date_time_set.DateTimeSet.next_after.Given as goal

abbrev pub invariant-loop-next : goal.invariant-loop-next
invariant-loop-next l = record {
  range : IsDateTime l.last;
  searched : IsSearched (is_past int_cmp true) (next_readings l.self) l.fn.reading l.last;
}

abbrev pub decreases-loop-next : goal.decreases-loop-next
decreases-loop-next l = last_date_time - unsigned_abs l.last
