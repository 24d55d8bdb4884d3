use Rattle.std.proofs.Common.{length}
use Rattle.cal_recurrence.specs.Words.{parts_left}
use Rattle.cal_ics.proofs.Searches.{IsOpen}
use Rattle.cal_ics.proofs.search.find_end.Given as goal

abbrev pub invariant-loop-rest : goal.invariant-loop-rest
invariant-loop-rest l = IsOpen l.lines l.depth l.position l.rest

abbrev pub decreases-loop-rest : goal.decreases-loop-rest
decreases-loop-rest l = length (parts_left 10 l.rest)
