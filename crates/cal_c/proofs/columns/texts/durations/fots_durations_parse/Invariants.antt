use Rattle.std.proofs.Common.{ℕ, ◌<◌, ◌+◌, pos, get_or}
use Rattle.cal_c.specs.DurationColumns.{duration_row, IsParsedDurationRow}
use Rattle.cal_c.proofs.columns.texts.durations.fots_durations_parse.Given as goal

abbrev pub invariant-loop-row : goal.invariant-loop-row
invariant-loop-row l =
    (k : ℕ) → k < l.row
    → IsParsedDurationRow l.bytes (get_or l.bounds k (pos 0)) (get_or l.bounds (k + 1) (pos 0)) (duration_row (get_or l.seconds k (pos 0)) (get_or l.nanoseconds k (pos 0)) (get_or l.statuses k 0))
