-- Dates in text as Julian days.
use Rattle.std.specs.Prelude.{◌≡◌, ◌<◌, ◌^◌, ℕ, ℤ, List, ◌++◌, codes, unsigned_abs}
use Rattle.std.specs.Fmt.{signed_decimal}
use Rattle.cal_time.specs.Date.{julian_day_at, HasJulianDay, NoDate}
use Rattle.cal_time.specs.DateErrors.{julian_day_out_of_range}
use Rattle.cal_time.specs.declared.error.ComponentRange.{ComponentRange}

-- The letter J and a number, with a minus sign if it is negative.
abbrev pub julian_form : ℤ → List ℕ
julian_form j = codes "J" ++ signed_decimal j

-- The text of day n as a Julian day.
abbrev pub julian_text : ℕ → List ℕ
julian_text n = julian_form (julian_day_at n)

-- The bytes are the letter J and the number j, which has at most nine digits.
pub record IsJulianForm (bytes : List ℕ) (j : ℤ) : Type 0 where
  pub digits : unsigned_abs j < 10 ^ 9
  pub bytes_are : bytes ≡ julian_form j

-- The error of a number that is not the Julian day of a day of the range.
abbrev pub IsJulianDayError : ℤ → ComponentRange → Type 0
IsJulianDayError j why = (why ≡ julian_day_out_of_range) × NoDate (HasJulianDay j)
