-- A date-time is an integer: the nanoseconds since midnight of the first day of the range. Each day
-- has 24 hours (ISO 8601, local date and time of day, without leap seconds).
use Rattle.std.specs.Prelude.{ℕ, ◌+◌, ◌*◌, ◌/◌, ◌%◌, ℤ, pos, ◌≤ℤ◌, unsigned_abs, List, ◌++◌, codes}
use Rattle.std.specs.Int.{int_min, int_max}
use Rattle.cal_time.specs.DateText as date
use Rattle.cal_time.specs.SignedDuration.{day}
use Rattle.cal_time.specs.Time as clock

-- The last date-time is the last nanosecond of the last day.
abbrev pub last_date_time : ℕ
last_date_time = 63_113_872_377_599_999_999_999

-- z is a date-time of the range.
pub record IsDateTime (z : ℤ) : Type 0 where
  pub not_before : pos 0 ≤ℤ z
  pub not_after : z ≤ℤ pos last_date_time

-- The date-time of the range that is nearest to z.
abbrev pub clamped_date_time : ℤ → ℤ
clamped_date_time z = int_max (pos 0) (int_min z (pos last_date_time))

-- The date-time of day n at the time of day t, in nanoseconds since midnight.
abbrev pub date_time : ℕ → ℕ → ℤ
date_time n t = pos (n * day + t)

-- The day of a date-time, counted from the first day of the range.
unfoldable pub date_at : ℤ → ℕ
date_at z = unsigned_abs z / day

-- The time of day of a date-time, in nanoseconds since midnight.
unfoldable pub time_at : ℤ → ℕ
time_at z = unsigned_abs z % day

-- The date-time on day n at the same time of day.
abbrev pub with_date : ℤ → ℕ → ℤ
with_date z n = date_time n (time_at z)

-- The date-time on the same day at the time of day t.
abbrev pub with_time : ℤ → ℕ → ℤ
with_time z t = date_time (date_at z) t

-- The text of a date-time is the text of its day, a space and the text of its time of day.
abbrev pub text : ℤ → List ℕ
text z = date.text (date_at z) ++ codes " " ++ clock.text (time_at z)
