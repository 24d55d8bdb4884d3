use Rattle.std.proofs.Common.{◌+ℤ◌}
use Rattle.cal_datetime.specs.OffsetDateTime.{unix_epoch}
use Rattle.cal_recurrence.specs.ZonedSet.{IsNextAfter}
use Rattle.cal_recurrence.proofs.ZonedSearch.{ListedBefore}
use Rattle.cal_recurrence.proofs.zoned_set.ZonedSet.first_listed.Given as goal

abbrev pub invariant-loop-moment : goal.invariant-loop-moment
invariant-loop-moment l = IsNextAfter (ListedBefore l.self l.moment-index) (unix_epoch +ℤ l.fn.after) l.first
