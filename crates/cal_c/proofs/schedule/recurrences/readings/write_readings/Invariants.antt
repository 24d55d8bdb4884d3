use Rattle.std.proofs.Common.{◌≡◌, ℕ, ◌<◌, ◌≤◌, drop, get_or, length, pos}
use Rattle.cal_c.specs.TextSets.{no_moment, utc_moment}
use Rattle.cal_c.proofs.schedule.recurrences.readings.write_readings.Given as goal

abbrev pub invariant-loop-index : goal.invariant-loop-index
invariant-loop-index l = record {
  room : length l.readings ≡ length l.initial.readings;
  few : l.index ≤ length l.initial.walk;
  left : drop l.index l.initial.walk ≡ l.walk;
  written : (k : ℕ) → k < l.index → get_or l.readings k no_moment ≡ utc_moment (get_or l.initial.walk k (pos 0));
  others : (k : ℕ) → l.index ≤ k → get_or l.readings k no_moment ≡ get_or l.initial.readings k no_moment;
}
