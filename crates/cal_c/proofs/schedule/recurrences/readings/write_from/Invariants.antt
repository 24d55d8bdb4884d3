use Rattle.std.proofs.Common.{◌≡◌, ℕ, ◌<◌, ◌≤◌, drop, get_or, length, pos}
use Rattle.cal_recurrence.specs.DateTimeSet.{set_readings_from, set_readings_left}
use Rattle.cal_c.specs.TextSets.{no_moment, utc_moment}
use Rattle.cal_c.proofs.schedule.recurrences.readings.write_from.Given as goal

abbrev pub invariant-loop-index : goal.invariant-loop-index
invariant-loop-index l = record {
  same : l.set ≡ l.fn.set;
  room : length l.readings ≡ length l.initial.readings;
  few : l.index ≤ length (set_readings_from l.fn.set l.fn.from);
  left : drop l.index (set_readings_from l.fn.set l.fn.from) ≡ set_readings_left l.fn.set l.next;
  written : (k : ℕ) → k < l.index → get_or l.readings k no_moment ≡ utc_moment (get_or (set_readings_from l.fn.set l.fn.from) k (pos 0));
  others : (k : ℕ) → l.index ≤ k → get_or l.readings k no_moment ≡ get_or l.initial.readings k no_moment;
}
