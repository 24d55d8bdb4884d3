use Rattle.std.proofs.Common.{◌-◌, length}
use Rattle.cal_recurrence.proofs.FoldedLines.{IsFolding}
use Rattle.cal_recurrence.proofs.folding.fold.Given as goal

abbrev pub invariant-loop-index : goal.invariant-loop-index
invariant-loop-index l = IsFolding l.text l.initial.folded l.folded l.filled l.index l.column

abbrev pub decreases-loop-index : goal.decreases-loop-index
decreases-loop-index l = length l.text - l.index
