-- A date-time at an offset is two numbers: the local date-time, and the seconds by which the local
-- clock is ahead of UTC. Its instant is the local date-time minus the offset (ISO 8601, local time
-- and time shift).
use Rattle.std.specs.Prelude.{ℕ, ℤ, pos, List, ◌++◌, codes, neg_ℤ, ◌+◌, ◌*◌, ◌+ℤ◌, ◌-ℤ◌, ◌*ℤ◌, ◌≤ℤ◌}
use Rattle.std.specs.Int.{int_div_euclid}
use Rattle.std.specs.Hash as fed
use Rattle.std.specs.Hash.{HashWrites}
use Rattle.cal_time.specs.declared.error.Component.TheVariants as component
use Rattle.cal_time.specs.declared.error.ComponentRange.{ComponentRange}
use Rattle.cal_time.specs.ComponentError.{unconditional}
use Rattle.cal_time.specs.SignedDuration.{day, second}
use Rattle.cal_time.specs.UtcOffset as offset
use Rattle.cal_time.specs.UtcOffset.{max_offset_seconds}
use Rattle.cal_time.specs.DateText as date
use Rattle.cal_time.specs.Time as clock
use Rattle.cal_datetime.specs.DateTime.{last_date_time, date_at, time_at, with_date, with_time}

-- A date-time at an offset: the local date-time, and the offset in seconds ahead of UTC.
pub record LocalAndOffset : Type 0 where
  pub local : ℤ
  pub offset : ℤ

-- The local day of a date-time at an offset.
abbrev pub local_date : LocalAndOffset → ℕ
local_date m = date_at m.local

-- The date-time on the local day n, at the same local time of day and the same offset.
abbrev pub with_local_date : LocalAndOffset → ℕ → LocalAndOffset
with_local_date m n = record { local = with_date m.local n; offset = m.offset }

-- The date-time at the local time of day t, on the same local day and at the same offset.
abbrev pub with_local_time : LocalAndOffset → ℕ → LocalAndOffset
with_local_time m t = record { local = with_time m.local t; offset = m.offset }

-- The instant is the nanoseconds at UTC since the first date-time of the range. It may lie outside
-- the range.
unfoldable pub instant : LocalAndOffset → ℤ
instant m = m.local -ℤ m.offset *ℤ pos second

-- An instant is in the range, or outside it by at most 25:59:59, the maximum offset.
pub record IsInstant (z : ℤ) : Type 0 where
  pub not_before : neg_ℤ (pos (max_offset_seconds * second)) ≤ℤ z
  pub not_after : z ≤ℤ pos (last_date_time + max_offset_seconds * second)

-- The local date-time of the instant z at an offset in seconds.
abbrev pub local_at : ℤ → ℤ → ℤ
local_at z offset = z +ℤ offset *ℤ pos second

-- The number of the day 1970-01-01, counted from the first day of the range.
abbrev pub epoch_day : ℤ
epoch_day = pos 365_961_662

-- The instant of 1970-01-01 0:00 UTC.
abbrev pub unix_epoch : ℤ
unix_epoch = epoch_day *ℤ pos day

-- The Unix time of an instant is the nanoseconds since 1970-01-01 0:00 UTC.
abbrev pub unix_nanoseconds : ℤ → ℤ
unix_nanoseconds z = z -ℤ unix_epoch

-- The Unix time of an instant in seconds, rounded down.
abbrev pub unix_seconds : ℤ → ℤ
unix_seconds z = int_div_euclid (unix_nanoseconds z) (pos second)

-- The error of a Unix time that is out of range.
abbrev pub timestamp_out_of_range : ComponentRange
timestamp_out_of_range = unconditional component.Timestamp

-- A date-time at an offset feeds its instant to a hasher.
abbrev pub hash_input_of : LocalAndOffset → HashWrites
hash_input_of m = fed.i128 (instant m)

-- The text of a date-time at an offset is the texts of the day, the time and the offset, separated
-- by spaces.
abbrev pub text : LocalAndOffset → List ℕ
text m = date.text (date_at m.local) ++ codes " " ++ clock.text (time_at m.local) ++ codes " " ++ offset.text m.offset
