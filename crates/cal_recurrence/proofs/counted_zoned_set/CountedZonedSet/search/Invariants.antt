use Rattle.std.proofs.Common.{◌≡◌, length}
use Rattle.cal_recurrence.specs.CountedSet.{unread, whole_zoned_set}
use Rattle.cal_recurrence.proofs.counted_zoned_set.CountedZonedSet.search.Given as goal

abbrev pub invariant-loop-last : goal.invariant-loop-last
invariant-loop-last l = record {
  whole : whole_zoned_set l.self-inside.set l.self-inside.left.readings ≡ l.fn.self;
  counted : l.self-inside.left.readings ≡ unread l.self-inside.set.readings.rule l.self-inside.left.left;
}

abbrev pub decreases-loop-last : goal.decreases-loop-last
decreases-loop-last l = length l.self-inside.left.readings
