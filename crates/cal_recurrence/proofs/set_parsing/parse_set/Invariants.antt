use Rattle.std.proofs.Common.{length}
use Rattle.cal_recurrence.specs.Words.{parts_left}
use Rattle.cal_recurrence.proofs.SetSteps.{IsProgress}
use Rattle.cal_recurrence.proofs.set_parsing.parse_set.Given as goal

abbrev pub invariant-loop-lines : goal.invariant-loop-lines
invariant-loop-lines l = IsProgress l.text l.draft l.position l.lines

abbrev pub decreases-loop-lines : goal.decreases-loop-lines
decreases-loop-lines l = length (parts_left 10 l.lines)
