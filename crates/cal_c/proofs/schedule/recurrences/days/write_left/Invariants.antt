use Rattle.std.proofs.Common.{◌≡◌, ℕ, ◌<◌, ◌≤◌, drop, get_or, length, pos}
use Rattle.cal_time.specs.Date.{julian_day_at}
use Rattle.cal_recurrence.specs.Cursors.{days_left}
use Rattle.cal_c.proofs.schedule.recurrences.days.write_left.Given as goal

abbrev pub invariant-loop-index : goal.invariant-loop-index
invariant-loop-index l = record {
  room : length l.days ≡ length l.initial.days;
  few : l.index ≤ length (days_left l.rule l.initial.cursor);
  left : drop l.index (days_left l.rule l.initial.cursor) ≡ days_left l.rule l.cursor;
  written : (k : ℕ) → k < l.index → get_or l.days k (pos 0) ≡ julian_day_at (get_or (days_left l.rule l.initial.cursor) k 0);
  others : (k : ℕ) → l.index ≤ k → get_or l.days k (pos 0) ≡ get_or l.initial.days k (pos 0);
}
