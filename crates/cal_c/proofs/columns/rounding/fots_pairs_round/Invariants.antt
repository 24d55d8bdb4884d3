use Rattle.std.proofs.Common.{ℕ, ◌<◌, get_or, pos}
use Rattle.cal_c.specs.DurationColumns.{pair_row}
use Rattle.cal_c.specs.Rounding.{IsPairRoundedTo}
use Rattle.cal_c.proofs.columns.rounding.fots_pairs_round.Given as goal

abbrev pub invariant-loop-row : goal.invariant-loop-row
invariant-loop-row l =
    (k : ℕ) → k < l.row
    → IsPairRoundedTo (get_or l.dates k (pos 0)) (get_or l.times k 0) l.unit l.mode (pair_row (get_or l.rounded_dates k (pos 0)) (get_or l.rounded_times k 0) (get_or l.statuses k 0))
