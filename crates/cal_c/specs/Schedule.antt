-- The results of calls for schedules, and the numbers of conventions.
use Rattle.std.specs.Prelude.{◌≡◌, ℕ, ◌≤◌, ℤ, pos, neg_ℤ}
use Rattle.cal_schedule.specs.declared.year_fraction.DayCount.{DayCount}
use Rattle.cal_schedule.specs.declared.year_fraction.DayCount.TheVariants.{Actual360, Actual365Fixed, Thirty360, ThirtyE360, ActualActual}
use Rattle.cal_schedule.specs.Period.{parts, Parts}
use Rattle.cal_schedule.specs.declared.unit.CalendarUnit.{CalendarUnit}
use Rattle.cal_schedule.specs.declared.unit.CalendarUnit.TheVariants.{Day, Week, Month, Quarter, Year}
use Rattle.cal_c.specs.Results.{no_value}
use Rattle.cal_c.specs.declared.status.TheConstants.{OK}
use Rattle.cal_c.specs.declared.results.NumberResult.{NumberResult}
use Rattle.cal_c.specs.declared.schedule.results.PeriodResult.{PeriodResult}
use Rattle.cal_c.specs.declared.schedule.results.YearFractionResult.{YearFractionResult}

-- The result is a number with a property.
pub record IsNumberWith (Has : ℤ → Type 0) (r : NumberResult) : Type 0 where
  pub status_is : r.status ≡ OK
  pub has : Has r.number

-- ---- periods
abbrev pub period_ok : Parts → PeriodResult
period_ok p = record { status = OK; years = p.years; months = p.months; weeks = p.weeks; days = p.days }

abbrev pub period_error : ℤ → PeriodResult
period_error s = record { status = s; years = no_value; months = no_value; weeks = no_value; days = no_value }

-- The result is a period with a property.
pub record IsPeriodWith (Has : Parts → Type 0) (r : PeriodResult) : Type 0 where
  pub status_is : r.status ≡ OK
  pub has : Has (parts r.years r.months r.weeks r.days (pos 0))

-- ---- units
abbrev pub unit_number : CalendarUnit → ℕ
unit_number Day = 1
unit_number Week = 2
unit_number Month = 3
unit_number Quarter = 4
unit_number Year = 5

abbrev pub IsUnit : ℕ → Type 0
IsUnit k = (1 ≤ k) × (k ≤ 5)

-- ---- day counts
abbrev pub year_fraction_ok : ℤ → ℕ → YearFractionResult
year_fraction_ok z y = record { status = OK; denominator = y; numerator = z }

abbrev pub year_fraction_error : ℤ → YearFractionResult
year_fraction_error s = record { status = s; denominator = 0; numerator = neg_ℤ (pos 9_223_372_036_854_775_808) }

-- Day count conventions are numbered from 1, actual/360.
abbrev pub day_count_number : DayCount → ℕ
day_count_number Actual360 = 1
day_count_number Actual365Fixed = 2
day_count_number Thirty360 = 3
day_count_number ThirtyE360 = 4
day_count_number ActualActual = 5

abbrev pub IsDayCount : ℕ → Type 0
IsDayCount k = (1 ≤ k) × (k ≤ 5)
