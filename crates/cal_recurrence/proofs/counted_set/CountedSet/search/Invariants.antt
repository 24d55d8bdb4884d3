use Rattle.std.proofs.Common.{◌≡◌, length}
use Rattle.cal_recurrence.specs.CountedSet.{unread, whole_set}
use Rattle.cal_recurrence.proofs.counted_set.CountedSet.search.Given as goal

abbrev pub invariant-loop-self : goal.invariant-loop-self
invariant-loop-self l = record {
  whole : whole_set l.self-inside.set l.self-inside.left.readings ≡ l.fn.self;
  counted : l.self-inside.left.readings ≡ unread l.self-inside.set.rule l.self-inside.left.left;
}

abbrev pub decreases-loop-self : goal.decreases-loop-self
decreases-loop-self l = length l.self-inside.left.readings
