use Rattle.std.proofs.Common.{◌≡◌, ℕ, ◌<◌, ◌≤◌, drop, get_or, length, pos}
use Rattle.cal_time.specs.Date.{julian_day_at}
use Rattle.cal_c.proofs.schedule.recurrences.write_walk.Given as goal

abbrev pub invariant-loop-index : goal.invariant-loop-index
invariant-loop-index l = record {
  room : length l.days ≡ length l.initial.days;
  few : l.index ≤ length l.initial.walk;
  left : drop l.index l.initial.walk ≡ l.walk;
  written : (k : ℕ) → k < l.index → get_or l.days k (pos 0) ≡ julian_day_at (get_or l.initial.walk k 0);
  others : (k : ℕ) → l.index ≤ k → get_or l.days k (pos 0) ≡ get_or l.initial.days k (pos 0);
}
