-- The occurrences of a set in a zone that an iterator has left.
use Rattle.std.specs.Prelude.{◌≡◌, ℕ, ◌+◌, ◌*◌, ℤ, pos, neg_ℤ, ◌-ℤ◌, unsigned_abs, Option, Some, None}
use Rattle.cal_time.specs.SignedDuration.{second}
use Rattle.cal_datetime.specs.DateTime.{last_date_time}
use Rattle.cal_datetime.specs.OffsetDateTime.{LocalAndOffset, instant}
use Rattle.cal_recurrence.specs.ZonedSet.{IsNextAfter, Occurs}
use Rattle.cal_recurrence.specs.declared.zoned_set.ZonedSet.{ZonedSet}

-- A set and its next occurrence, if there is one.
pub record OccurrencesLeft : Type 0 where
  pub set : ZonedSet
  pub front : Option LocalAndOffset

-- The last instant before all instants that a reading of the range can mean, in nanoseconds since
-- its first reading.
abbrev pub before_all : ℤ
before_all = neg_ℤ (pos (93_599 * second + 1))

-- The iterator returns its next occurrence, and then has the first one after it.
abbrev pub Continues : OccurrencesLeft → Option LocalAndOffset → OccurrencesLeft → Type 0
Continues walk None rest = rest ≡ walk
Continues walk (Some m) rest = (rest.set ≡ walk.set) × IsNextAfter (Occurs walk.set) (instant m) rest.front

abbrev pub YieldsNext : OccurrencesLeft → Option LocalAndOffset → OccurrencesLeft → Type 0
YieldsNext walk result rest = (result ≡ walk.front) × Continues walk result rest

-- The nanoseconds from the next occurrence to the last instant that a reading can mean.
abbrev pub nanoseconds_left : Option LocalAndOffset → ℕ
nanoseconds_left None = 0
nanoseconds_left (Some m) = unsigned_abs (pos (last_date_time + 93_600 * second) -ℤ instant m) + 1
