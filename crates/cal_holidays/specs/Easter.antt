-- Easter is the Sunday after the paschal full moon.
use Rattle.std.specs.Prelude.{◌≡◌, ℕ, zero, suc, ◌+◌, ◌%◌, ◌==◌, if◌then◌else◌, ℤ, pos, ◌+ℤ◌, ◌-ℤ◌, ◌<ℤ◌, ◌≤ℤ◌}
use Rattle.cal_time.specs.Date.{IsDate, IsYear, HasCalendarDate, weekday_at}
use Rattle.cal_holidays.specs.Epacts.{table_year, full_moon, julian_full_moon}

-- Day n is the Sunday among the seven days after day p.
pub record IsSundayAfter (p : ℤ) (n : ℕ) : Type 0 where
  pub after : p <ℤ pos n
  pub within : pos n ≤ℤ (p +ℤ pos 7)
  pub sunday : weekday_at n ≡ 6

-- The day with a number, counted from 1 March as day 1.
abbrev pub counted_from : ℤ → ℕ → ℤ
counted_from march d = (march +ℤ pos d) -ℤ pos 1

-- Day n is Easter of the year y.
pub record IsEaster (y : ℤ) (n : ℕ) : Type 0 where
  pub march : ℕ
  pub range : IsDate march
  pub march_is : HasCalendarDate y 3 1 march
  pub sunday : IsSundayAfter (counted_from (pos march) (full_moon (table_year y))) n

-- The days from 1 March of the year 0 of the tables to 1 March of a later one, by the Julian
-- calendar: each fourth year has 366 days.
unfoldable pub julian_days : ℕ → ℕ
julian_days zero = 0
julian_days (suc y) = julian_days y + (if suc y % 4 == 0 then 366 else 365)

-- Day m is 1 March of the year y of the Julian calendar. In the year 200 it is that of the Gregorian
-- calendar.
pub record IsJulianMarch (y m : ℤ) : Type 0 where
  pub common : ℕ
  pub range : IsDate common
  pub common_is : HasCalendarDate (pos 200) 3 1 common
  pub days : (m +ℤ pos (julian_days (table_year (pos 200)))) ≡ (pos common +ℤ pos (julian_days (table_year y)))

-- Day n is Easter of the year y of the Julian calendar.
pub record IsJulianEaster (y : ℤ) (n : ℕ) : Type 0 where
  pub year : IsYear y
  pub march : ℤ
  pub march_is : IsJulianMarch y march
  pub sunday : IsSundayAfter (counted_from march (julian_full_moon (table_year y))) n
