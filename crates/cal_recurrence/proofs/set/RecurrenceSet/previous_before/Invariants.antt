use Rattle.std.proofs.Common.{false}
use Rattle.std.specs.Ordering.{nat_cmp}
use Rattle.cal_recurrence.specs.Nearest.{is_past}
use Rattle.cal_recurrence.specs.Sets.{is_in_set}
use Rattle.cal_recurrence.proofs.NearestValues.{IsSearched}
use Rattle.cal_recurrence.proofs.set.RecurrenceSet.previous_before.Given as goal

abbrev pub invariant-loop-previous : goal.invariant-loop-previous
invariant-loop-previous l = IsSearched (is_past nat_cmp false) (is_in_set l.self) l.fn.date l.first

abbrev pub decreases-loop-previous : goal.decreases-loop-previous
decreases-loop-previous l = l.first
