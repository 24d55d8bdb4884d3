use Rattle.std.proofs.Common.{[], length}
use Rattle.cal_recurrence.specs.Words.{parts_at, parts_left}
use Rattle.cal_recurrence.proofs.Listed.{IsRead}
use Rattle.cal_recurrence.proofs.lists.values_of.Given as goal

abbrev pub invariant-loop-words : goal.invariant-loop-words
invariant-loop-words g l = IsRead (g.T.Word.meaning_of l.most) [] l.values (parts_left 44 l.words) (parts_at 44 l.value)

abbrev pub decreases-loop-words : goal.decreases-loop-words
decreases-loop-words g l = length (parts_left 44 l.words)
