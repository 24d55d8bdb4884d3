use Rattle.std.proofs.Common.{ℕ, ◌<◌, ◌+◌, pos, get_or}
use Rattle.cal_c.specs.TextColumns.{moment_row}
use Rattle.cal_c.specs.IsoColumns.{IsIsoMomentRow}
use Rattle.cal_c.proofs.columns.texts.iso.fots_moments_parse_iso.Given as goal

abbrev pub invariant-loop-row : goal.invariant-loop-row
invariant-loop-row l = (k : ℕ) → k < l.row → IsIsoMomentRow l.bytes (get_or l.bounds k (pos 0)) (get_or l.bounds (k + 1) (pos 0)) (moment_row (get_or l.dates k (pos 0)) (get_or l.times k 0) (get_or l.offsets k (pos 0)) (get_or l.statuses k 0))
