-- Valid numbers from C, and their values. A time of day is its nanoseconds since midnight and an
-- offset its seconds, as in `IsTime` and `IsOffset`.
use Rattle.std.specs.Prelude.{ℕ, ◌≤◌, List, map, ℤ, pos, neg_ℤ, ◌+ℤ◌, ◌-ℤ◌, ◌*ℤ◌, ◌<ℤ◌, ◌≤ℤ◌, unsigned_abs}
use Rattle.std.specs.Int.{int_min, int_max}
use Rattle.cal_time.specs.Date.{first_julian_day, last_day, julian_day_at}
use Rattle.cal_time.specs.SignedDuration.{second}
use Rattle.cal_datetime.specs.DateTime.{date_time}
use Rattle.cal_datetime.specs.OffsetDateTime.{LocalAndOffset}
use Rattle.cal_c.specs.declared.results.Duration.{Duration}

-- A date is its Julian day.
pub record IsJulianDay (j : ℤ) : Type 0 where
  pub not_before : first_julian_day ≤ℤ j
  pub not_after : j ≤ℤ julian_day_at last_day

-- The number of the day with the Julian day j.
abbrev pub day_of : ℤ → ℕ
day_of j = unsigned_abs (j -ℤ first_julian_day)

-- The days with these Julian days. A list of dates has at most 1024.
abbrev pub dates_in : List ℤ → List ℕ
dates_in js = map day_of js

abbrev pub max_dates : ℕ
max_dates = 1024

-- The Julian day of the range that is nearest to j.
abbrev pub clamped_julian_day : ℤ → ℤ
clamped_julian_day j = int_max first_julian_day (int_min j (julian_day_at last_day))

-- Months are numbered from 1, January, and weekdays from 1, Monday.
abbrev pub IsMonth : ℕ → Type 0
IsMonth m = (1 ≤ m) × (m ≤ 12)

abbrev pub IsWeekday : ℕ → Type 0
IsWeekday w = (1 ≤ w) × (w ≤ 7)

-- A duration is its whole seconds and the remaining nanoseconds, less than a second and of the same
-- sign.
pub record IsDurationPair (d : Duration) : Type 0 where
  pub above : neg_ℤ (pos second) <ℤ d.nanoseconds
  pub below : d.nanoseconds <ℤ pos second
  pub positive : pos 0 <ℤ d.seconds → pos 0 ≤ℤ d.nanoseconds
  pub negative : d.seconds <ℤ pos 0 → d.nanoseconds ≤ℤ pos 0

-- The nanoseconds of a duration.
abbrev pub nanoseconds_in : Duration → ℤ
nanoseconds_in d = d.seconds *ℤ pos second +ℤ d.nanoseconds

-- A moment is a date and a time of day at an offset.
abbrev pub moment_of : ℤ → ℕ → ℤ → LocalAndOffset
moment_of date time offset = record { local = date_time (day_of date) time; offset = offset }

-- A call that needs a condition: one result if it doesn't hold, and another if it does.
infix 1 need◌else◌then◌
pub record need◌else◌then◌ (Is Else Then : Type 0) : Type 0 where
  pub error : (Is → ⊥) → Else
  pub value : Is → Then
