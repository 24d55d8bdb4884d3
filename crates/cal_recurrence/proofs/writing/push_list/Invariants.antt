use Rattle.std.proofs.Common.{◌≤◌, ◌++◌, drop, length}
use denote.Text.{Utf8}
use denote.Shadow.{shadow}
use Rattle.cal_recurrence.specs.Written.{list_text}
use Rattle.cal_recurrence.proofs.Marked.{IsWritten}
use Rattle.cal_recurrence.proofs.writing.push_list.Given as goal

abbrev pub invariant-loop-value : goal.invariant-loop-value
invariant-loop-value g l =
    shadow (Utf8 l.mark)
    × IsWritten g.T.Word.text_of (l.initial.text ++ list_text l.name g.T.Word.text_of l.values) l.initial.text l.text l.mark (length l.name) l.value-index (drop l.value-index l.values)
    × (1 ≤ length l.mark)
