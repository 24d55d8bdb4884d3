use Rattle.std.proofs.Common.{ℕ, ◌<◌, ◌+◌, pos, get_or}
use Rattle.cal_c.specs.Columns.{date_row}
use Rattle.cal_c.specs.IsoColumns.{IsIsoDateRow}
use Rattle.cal_c.proofs.columns.texts.iso.fots_dates_parse_iso.Given as goal

abbrev pub invariant-loop-row : goal.invariant-loop-row
invariant-loop-row l = (k : ℕ) → k < l.row → IsIsoDateRow l.bytes (get_or l.bounds k (pos 0)) (get_or l.bounds (k + 1) (pos 0)) (date_row (get_or l.dates k (pos 0)) (get_or l.statuses k 0))
