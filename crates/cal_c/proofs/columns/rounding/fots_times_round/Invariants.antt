use Rattle.std.proofs.Common.{ℕ, ◌<◌, get_or}
use Rattle.cal_c.specs.DurationColumns.{time_row}
use Rattle.cal_c.specs.Rounding.{IsTimeRoundedTo}
use Rattle.cal_c.proofs.columns.rounding.fots_times_round.Given as goal

abbrev pub invariant-loop-row : goal.invariant-loop-row
invariant-loop-row l = (k : ℕ) → k < l.row → IsTimeRoundedTo (get_or l.times k 0) l.unit l.mode (time_row (get_or l.rounded_times k 0) (get_or l.statuses k 0))
