use Rattle.std.proofs.Common.{◌≡◌, ℕ, ◌+◌, ◌-◌, ◌<◌, ◌≤◌, get_or, pos}
use Rattle.cal_c.specs.Columns.{IsDateDaysLater, date_row}
use Rattle.cal_c.proofs.HeldDays.{held}
use Rattle.cal_c.proofs.columns.arithmetic.fots_dates_add_days.Given as goal

abbrev pub decreases-loop-start : goal.decreases-loop-start
decreases-loop-start l = l.rows - l.start

abbrev pub invariant-loop-start : goal.invariant-loop-start
invariant-loop-start l = record {
  within : l.start ≤ l.rows;
  done : (k : ℕ) → k < l.start → IsDateDaysLater (get_or l.dates k (pos 0)) (get_or l.days k (pos 0)) (date_row (get_or l.moved k (pos 0)) (get_or l.statuses k 0));
}

abbrev pub invariant-loop-row : goal.invariant-loop-row
invariant-loop-row l = record {
  done : (k : ℕ) → k < l.row → IsDateDaysLater (get_or l.dates k (pos 0)) (get_or l.days k (pos 0)) (date_row (get_or l.moved k (pos 0)) (get_or l.statuses k 0));
  clamped : (k : ℕ) → k < l.end - l.start → get_or l.clamped k (pos 0) ≡ held (get_or l.days (l.start + k) (pos 0));
}
