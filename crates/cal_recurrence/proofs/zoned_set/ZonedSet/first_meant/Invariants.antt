use Rattle.std.proofs.Common.{◌-◌, ◌+ℤ◌}
use Rattle.std.specs.Prelude.{unsigned_abs}
use Rattle.cal_datetime.specs.DateTime.{last_date_time, IsDateTime}
use Rattle.cal_datetime.specs.OffsetDateTime.{unix_epoch}
use Rattle.cal_recurrence.specs.ZonedSet.{IsNextAfter}
use Rattle.cal_recurrence.proofs.ZonedSearch.{Covered}
use Rattle.cal_recurrence.proofs.zoned_set.ZonedSet.first_meant.Given as goal

abbrev pub invariant-loop-next : goal.invariant-loop-next
invariant-loop-next l = record {
  covered : IsNextAfter (Covered l.self l.last) (unix_epoch +ℤ l.fn.after) l.first;
  range : IsDateTime l.last;
}

abbrev pub decreases-loop-next : goal.decreases-loop-next
decreases-loop-next l = last_date_time - unsigned_abs l.last
