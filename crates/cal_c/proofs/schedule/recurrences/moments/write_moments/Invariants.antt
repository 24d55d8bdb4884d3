use Rattle.std.proofs.Common.{◌≡◌, ℕ, ◌<◌, ◌≤◌, get_or, length}
use Rattle.cal_datetime.specs.OffsetDateTime.{instant}
use Rattle.cal_recurrence.specs.ZonedSet.{IsFirstAfter, Occurs}
use Rattle.cal_c.specs.Moments.{local_and_offset_in, IsMoment}
use Rattle.cal_c.specs.TextSets.{before, no_moment}
use Rattle.cal_c.proofs.schedule.recurrences.moments.write_moments.Given as goal

abbrev pub invariant-loop-index : goal.invariant-loop-index
invariant-loop-index l = record {
  same : l.set ≡ l.fn.set;
  room : length l.moments ≡ length l.initial.moments;
  last : instant l.last ≡ before (instant l.fn.after) l.moments l.index;
  valid : (k : ℕ) → k < l.index → IsMoment (get_or l.moments k no_moment);
  written : (k : ℕ) → k < l.index → IsFirstAfter (Occurs l.fn.set) (before (instant l.fn.after) l.moments k) (local_and_offset_in (get_or l.moments k no_moment));
  others : (k : ℕ) → l.index ≤ k → get_or l.moments k no_moment ≡ get_or l.initial.moments k no_moment;
}
