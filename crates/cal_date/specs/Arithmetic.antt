-- A date moved by days. Only the whole days of a duration count.
use Rattle.std.specs.Prelude.{ℕ, ℤ, pos, ◌≤ℤ◌, unsigned_abs}
use Rattle.std.specs.Int.{int_min, int_max}
use Rattle.cal_date.specs.Date.{last_day}
use Rattle.cal_units.specs.Lengths.{days_in_year}

-- z is the number of a day of the range.
pub record IsDateNumber (z : ℤ) : Type 0 where
  pub not_before : pos 0 ≤ℤ z
  pub not_after : z ≤ℤ pos last_day

-- The number z clamped to the range: day 0 if it is negative, the last day if it is past that day.
abbrev pub clamped_date : ℤ → ℕ
clamped_date z = unsigned_abs (int_max (pos 0) (int_min z (pos last_day)))

-- z is an ordinal of the year y.
pub record IsOrdinalNumber (y z : ℤ) : Type 0 where
  pub not_before : pos 1 ≤ℤ z
  pub not_after : z ≤ℤ pos (days_in_year y)
