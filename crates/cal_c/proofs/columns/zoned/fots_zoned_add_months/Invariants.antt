use Rattle.std.proofs.Common.{ℕ, ◌<◌, pos, get_or}
use Rattle.cal_schedule.specs.Period.{parts}
use Rattle.cal_c.specs.ZoneColumns.{int64_row}
use Rattle.cal_c.specs.Zoned.{IsSecondsAfter}
use Rattle.cal_c.proofs.columns.zoned.fots_zoned_add_months.Given as goal

abbrev pub invariant-loop-row : goal.invariant-loop-row
invariant-loop-row l = (k : ℕ) → k < l.row
    → IsSecondsAfter l.zone (get_or l.seconds k (pos 0)) (parts (pos 0) (get_or l.months k (pos 0)) (pos 0) (pos 0) (pos 0)) l.policy (int64_row (get_or l.moved k (pos 0)) (get_or l.statuses k 0))
