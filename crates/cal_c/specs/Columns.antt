-- The results of calls, and of calls for columns, row by row.
use Rattle.std.specs.Prelude.{⊤, ◌≡◌, ℕ, ℤ, pos, ◌+◌, ◌-◌, ◌<◌, ◌+ℤ◌, ◌≤ℤ◌, Bool, not, ◌==◌, List, [], ◌∷◌, length, get_or, count_by}
use Rattle.cal_time.specs.Date.{julian_day_at, weekday_at, IsDate, IsYear, IsDayOfMonth, IsOrdinal, HasCalendarDate, HasOrdinalDate, NoDate}
use Rattle.cal_time.specs.IsoWeekDate.{IsWeek, HasIsoWeekDate}
use Rattle.cal_schedule.specs.Months.{month_number_at, IsMonthNumber, IsMonthsLater}
use Rattle.cal_c.specs.Results.{IsDateOrOutOfRange, date_ok, date_error, IsDateWith, calendar_date_ok, calendar_date_error, ordinal_date_ok, ordinal_date_error, iso_week_date_ok, iso_week_date_error}
use Rattle.cal_c.specs.declared.status.TheConstants.{OK, RESULT_OUT_OF_RANGE, INVALID_DATE, INVALID_WEEKDAY, YEAR_OUT_OF_RANGE, MONTH_OUT_OF_RANGE, JULIAN_DAY_OUT_OF_RANGE, DAY_OUT_OF_RANGE, ORDINAL_OUT_OF_RANGE, WEEK_OUT_OF_RANGE, WEEKDAY_OUT_OF_RANGE}
use Rattle.cal_c.specs.Values.{IsJulianDay, IsMonth, IsWeekday, day_of}
use Rattle.cal_c.specs.declared.results.DateResult.{DateResult}
use Rattle.cal_c.specs.declared.results.NumberResult.{NumberResult}
use Rattle.cal_c.specs.declared.results.CalendarDateResult.{CalendarDateResult}
use Rattle.cal_c.specs.declared.results.OrdinalDateResult.{OrdinalDateResult}
use Rattle.cal_c.specs.declared.results.IsoWeekDateResult.{IsoWeekDateResult}

-- A status is an error if it isn't 0.
abbrev pub is_error : ℕ → Bool
is_error status = not (status == 0)

-- A status fits in a byte.
abbrev pub IsByte : ℤ → Type 0
IsByte status = (pos 0 ≤ℤ status) × (status ≤ℤ pos 255)

-- Each of the lengths is n.
abbrev pub SameLength : ℕ → List ℕ → Type 0
SameLength n [] = ⊤
SameLength n (m ∷ ms) = (m ≡ n) × SameLength n ms

-- The value of row k in an array, or 0 after its end.
abbrev pub int_at : List ℤ → ℕ → ℤ
int_at xs k = get_or xs k (pos 0)

abbrev pub nat_at : List ℕ → ℕ → ℕ
nat_at xs k = get_or xs k 0

-- Each row has its result, and the rows with an error are counted.
pub record AreRows (statuses : List ℕ) (refused : ℕ) (Row : ℕ → Type 0) : Type 0 where
  pub each : (k : ℕ) → k < length statuses → Row k
  pub count : refused ≡ count_by is_error statuses

-- ---- a row of several arrays, which is the result of the single call
abbrev pub date_row : ℤ → ℕ → DateResult
date_row date status = record { status = pos status; date = date }

abbrev pub number_row : ℤ → ℕ → NumberResult
number_row number status = record { status = pos status; number = number }

abbrev pub calendar_date_row : ℤ → ℕ → ℕ → ℕ → CalendarDateResult
calendar_date_row year month day status = record { status = pos status; year = year; month = month; day = day }

abbrev pub ordinal_date_row : ℤ → ℕ → ℕ → OrdinalDateResult
ordinal_date_row year ordinal status = record { status = pos status; year = year; ordinal = ordinal }

abbrev pub iso_week_date_row : ℤ → ℕ → ℕ → ℕ → IsoWeekDateResult
iso_week_date_row year week weekday status = record { status = pos status; year = year; week = week; weekday = weekday }

-- The result of `fots_date_from_julian_day`.
pub record IsDateOfJulianDay (julian_day : ℤ) (r : DateResult) : Type 0 where
  pub no_julian_day : (IsJulianDay julian_day → ⊥) → r ≡ date_error JULIAN_DAY_OUT_OF_RANGE
  pub date : IsJulianDay julian_day → r ≡ date_ok julian_day

-- The result of `fots_date_from_calendar_date`.
pub record IsDateOfCalendarDate (year : ℤ) (month : ℕ) (day : ℕ) (r : DateResult) : Type 0 where
  pub no_month : (IsMonth month → ⊥) → r ≡ date_error MONTH_OUT_OF_RANGE
  pub no_year : IsMonth month → (IsYear year → ⊥) → r ≡ date_error YEAR_OUT_OF_RANGE
  pub no_day : IsMonth month → IsYear year → (IsDayOfMonth year month day → ⊥) → r ≡ date_error DAY_OUT_OF_RANGE
  pub date : IsMonth month → IsYear year → IsDayOfMonth year month day → IsDateWith (HasCalendarDate year month day) r

-- The result of `fots_date_from_ordinal_date`.
pub record IsDateOfOrdinalDate (year : ℤ) (ordinal : ℕ) (r : DateResult) : Type 0 where
  pub no_year : (IsYear year → ⊥) → r ≡ date_error YEAR_OUT_OF_RANGE
  pub no_ordinal : IsYear year → (IsOrdinal year ordinal → ⊥) → r ≡ date_error ORDINAL_OUT_OF_RANGE
  pub date : IsYear year → IsOrdinal year ordinal → IsDateWith (HasOrdinalDate year ordinal) r

-- The result of `fots_date_from_iso_week_date`.
pub record IsDateOfIsoWeekDate (year : ℤ) (week : ℕ) (weekday : ℕ) (r : DateResult) : Type 0 where
  pub invalid_weekday : (IsWeekday weekday → ⊥) → r ≡ date_error INVALID_WEEKDAY
  pub no_year : IsWeekday weekday → (IsYear year → ⊥) → r ≡ date_error YEAR_OUT_OF_RANGE
  pub no_week : IsWeekday weekday → IsYear year → (IsWeek year week → ⊥) → r ≡ date_error WEEK_OUT_OF_RANGE
  pub no_weekday : IsWeekday weekday → IsYear year → IsWeek year week → NoDate (HasIsoWeekDate year week (weekday - 1)) → r ≡ date_error WEEKDAY_OUT_OF_RANGE
  pub date : IsWeekday weekday → (n : ℕ) → IsDate n → HasIsoWeekDate year week (weekday - 1) n → IsWeek year week → r ≡ date_ok (julian_day_at n)

-- The result of `fots_date_to_calendar_date`.
pub record IsCalendarDateOf (date : ℤ) (r : CalendarDateResult) : Type 0 where
  pub invalid_date : (IsJulianDay date → ⊥) → r ≡ calendar_date_error INVALID_DATE
  pub value : IsJulianDay date → r ≡ calendar_date_ok (day_of date)

-- The result of `fots_date_to_ordinal_date`.
pub record IsOrdinalDateOf (date : ℤ) (r : OrdinalDateResult) : Type 0 where
  pub invalid_date : (IsJulianDay date → ⊥) → r ≡ ordinal_date_error INVALID_DATE
  pub value : IsJulianDay date → r ≡ ordinal_date_ok (day_of date)

-- The result of `fots_date_to_iso_week_date`.
pub record IsIsoWeekDateOf (date : ℤ) (r : IsoWeekDateResult) : Type 0 where
  pub invalid_date : (IsJulianDay date → ⊥) → r ≡ iso_week_date_error INVALID_DATE
  pub value : IsJulianDay date → r ≡ iso_week_date_ok (day_of date)

-- The result of `fots_date_weekday`, with the weekday 0 for an error.
pub record IsWeekdayNumberOf (date : ℤ) (weekday status : ℕ) : Type 0 where
  pub invalid_date : (IsJulianDay date → ⊥) → (weekday ≡ 0) × (pos status ≡ INVALID_DATE)
  pub value : IsJulianDay date → (weekday ≡ weekday_at (day_of date) + 1) × (pos status ≡ OK)

-- The result of `fots_date_from_calendar_date` and then `fots_date_to_iso_week_date`.
pub record IsIsoWeekDateOfCalendarDate (year : ℤ) (month : ℕ) (day : ℕ) (r : IsoWeekDateResult) : Type 0 where
  pub no_month : (IsMonth month → ⊥) → r ≡ iso_week_date_error MONTH_OUT_OF_RANGE
  pub no_year : IsMonth month → (IsYear year → ⊥) → r ≡ iso_week_date_error YEAR_OUT_OF_RANGE
  pub no_day : IsMonth month → IsYear year → (IsDayOfMonth year month day → ⊥) → r ≡ iso_week_date_error DAY_OUT_OF_RANGE
  pub value : IsMonth month → IsYear year → IsDayOfMonth year month day
      → (n : ℕ) × IsDate n × HasCalendarDate year month day n × (r ≡ iso_week_date_ok n)

-- The result of `fots_date_add_days`.
pub record IsDateDaysLater (date : ℤ) (days : ℤ) (r : DateResult) : Type 0 where
  pub invalid_date : (IsJulianDay date → ⊥) → r ≡ date_error INVALID_DATE
  pub day : IsJulianDay date → IsDateOrOutOfRange (date +ℤ days) r

-- The result of `fots_date_add_months`.
pub record IsDateMonthsLater (date : ℤ) (months : ℤ) (r : DateResult) : Type 0 where
  pub invalid_date : (IsJulianDay date → ⊥) → r ≡ date_error INVALID_DATE
  pub result_out_of_range : IsJulianDay date → (IsMonthNumber (month_number_at (day_of date) +ℤ months) → ⊥) → r ≡ date_error RESULT_OUT_OF_RANGE
  pub day : IsJulianDay date → IsMonthNumber (month_number_at (day_of date) +ℤ months) → IsDateWith (IsMonthsLater (day_of date) months) r
