use Rattle.std.proofs.Common.{ℕ, ◌<◌, pos, get_or}
use Rattle.cal_c.specs.ZoneColumns.{int64_row}
use Rattle.cal_c.specs.Zoned.{IsSecondsOfStart}
use Rattle.cal_c.proofs.columns.zoned.fots_zoned_starts_of_day.Given as goal

abbrev pub invariant-loop-row : goal.invariant-loop-row
invariant-loop-row l = (k : ℕ) → k < l.row → IsSecondsOfStart l.zone (get_or l.seconds k (pos 0)) (int64_row (get_or l.starts k (pos 0)) (get_or l.statuses k 0))
