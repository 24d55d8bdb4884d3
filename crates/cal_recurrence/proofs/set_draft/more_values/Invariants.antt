use Rattle.std.proofs.Common.{length}
use Rattle.cal_recurrence.specs.SetText.{parameters_of, value_of}
use Rattle.cal_recurrence.specs.Words.{parts_at, parts_left}
use Rattle.cal_recurrence.proofs.Listed.{IsRead}
use Rattle.cal_recurrence.proofs.set_draft.more_values.Given as goal

abbrev pub invariant-loop-words : goal.invariant-loop-words
invariant-loop-words l = IsRead (value_of (parameters_of l.head)) l.initial.values l.values (parts_left 44 l.words) (parts_at 44 l.value)

abbrev pub decreases-loop-words : goal.decreases-loop-words
decreases-loop-words l = length (parts_left 44 l.words)
