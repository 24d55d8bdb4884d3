use Rattle.std.proofs.Common.{pos, get_or}
use Rattle.cal_c.specs.DurationColumns.{duration_at, IsDurationTextRow}
use Rattle.cal_c.proofs.PrintedRows.{Printed}
use Rattle.cal_c.proofs.columns.texts.durations.fots_durations_texts.Given as goal

abbrev pub invariant-loop-row : goal.invariant-loop-row
invariant-loop-row l =
    Printed (λ k text status. IsDurationTextRow (duration_at (get_or l.seconds k (pos 0)) (get_or l.nanoseconds k (pos 0))) text status) 36 l.initial.bytes l.bytes l.bounds l.statuses l.row l.end
