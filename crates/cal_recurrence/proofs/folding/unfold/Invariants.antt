use Rattle.std.proofs.Common.{◌-◌, length}
use Rattle.cal_recurrence.proofs.Unfolding.{IsUnfolding}
use Rattle.cal_recurrence.proofs.folding.unfold.Given as goal

abbrev pub invariant-loop-index : goal.invariant-loop-index
invariant-loop-index l = IsUnfolding l.text l.initial.unfolded l.unfolded l.filled l.index

abbrev pub decreases-loop-index : goal.decreases-loop-index
decreases-loop-index l = length l.text - l.index
