use Rattle.std.proofs.Common.{◌-◌, length}
use Rattle.cal_recurrence.proofs.Outside.{IsPassed}
use Rattle.cal_recurrence.proofs.words.first_outside.Given as goal

abbrev pub invariant-loop-at : goal.invariant-loop-at
invariant-loop-at l = IsPassed l.byte l.quoted l.bytes l.at

abbrev pub decreases-loop-at : goal.decreases-loop-at
decreases-loop-at l = length l.bytes - l.at
