-- Periods for C, and the results of the calls that add them.
use Rattle.std.specs.Prelude.{◌≡◌, ℕ, ℤ, pos, neg_ℤ, ◌*ℤ◌, ◌≤ℤ◌, Result, Ok, Err}
use Rattle.cal_time.specs.Date.{julian_day_at}
use Rattle.cal_time.specs.SignedDuration.{second, cut, subsec_nanoseconds}
use Rattle.cal_time.specs.Time.{IsTime}
use Rattle.cal_datetime.specs.DateTime.{date_time, IsDateTime}
use Rattle.cal_schedule.specs.declared.unit.CalendarUnit.{CalendarUnit}
use Rattle.cal_schedule.specs.declared.period_error.PeriodError.{PeriodError}
use Rattle.cal_schedule.specs.declared.period_error.PeriodError.TheVariants.{HasDuration, OutOfRange}
use Rattle.cal_schedule.specs.Period.{days_of, months_of, parts, Parts, IsDateAfter, IsOneSign}
use Rattle.cal_zoned.specs.Period.{IsLaterBy}
use Rattle.cal_zoned.specs.Steps.{IsLastStep, IsPositive}
use Rattle.cal_zoned.specs.Until.{IsPeriodUntil}
use Rattle.cal_c.specs.Results.{date_ok, date_error, no_value, number_error, pair_at_local, pair_error}
use Rattle.cal_c.specs.Schedule.{unit_number, IsNumberWith, IsUnit}
use Rattle.cal_c.specs.Values.{need◌else◌then◌, day_of, nanoseconds_in, IsDurationPair, IsJulianDay}
use Rattle.cal_c.specs.declared.results.DateResult.{DateResult}
use Rattle.cal_c.specs.declared.results.NumberResult.{NumberResult}
use Rattle.cal_c.specs.declared.results.PairResult.{PairResult}
use Rattle.cal_c.specs.declared.schedule.pair_periods.ExactPeriodResult.{ExactPeriodResult}
use Rattle.cal_c.specs.declared.schedule.periods.PeriodParts.{PeriodParts}
use Rattle.cal_c.specs.declared.status.TheConstants.{OK, INVALID_DATE, INVALID_TIME, INVALID_UNIT, PERIOD_HAS_DURATION, RESULT_OUT_OF_RANGE}

-- The parts of a period. It is valid if its duration is, and if no part has another sign than
-- another part.
abbrev pub parts_in : PeriodParts → Parts
parts_in p = parts p.years p.months p.weeks p.days (nanoseconds_in p.duration)

pub record IsPeriod (p : PeriodParts) : Type 0 where
  pub duration : IsDurationPair p.duration
  pub sign : IsOneSign (parts_in p)

-- The result with a date, or with an error.
abbrev pub date_or_period_error : Result ℕ PeriodError → DateResult
date_or_period_error (Ok n) = date_ok (julian_day_at n)
date_or_period_error (Err HasDuration) = date_error PERIOD_HAS_DURATION
date_or_period_error (Err OutOfRange) = date_error RESULT_OUT_OF_RANGE

-- The result is the date k periods after day n, or the error of the period.
abbrev pub IsDateAfterResult : ℕ → ℤ → Parts → DateResult → Type 0
IsDateAfterResult n k p r =
    (its : Result ℕ PeriodError) × IsDateAfter n (k *ℤ months_of p) (k *ℤ days_of p) p.exact its × (r ≡ date_or_period_error its)

-- The result is the date and the time that are some months, then some days and then some nanoseconds
-- after a local date-time, or out of range.
pub record IsPairAfterBy (z months days nanoseconds : ℤ) (r : PairResult) : Type 0 where
  pub every : (l : ℤ) → IsDateTime l → IsLaterBy z months days nanoseconds l → r ≡ pair_at_local l
  pub none : ((l : ℤ) → IsDateTime l → ¬ IsLaterBy z months days nanoseconds l) → r ≡ pair_error RESULT_OUT_OF_RANGE

-- They are n periods after it.
abbrev pub IsPairAfter : ℤ → Parts → ℤ → PairResult → Type 0
IsPairAfter z p n r = IsPairAfterBy z (n *ℤ months_of p) (n *ℤ days_of p) (n *ℤ p.exact) r

-- ---- periods as results
-- The result with a period, whose duration is its whole seconds and the remaining nanoseconds.
abbrev pub exact_period_ok : Parts → ExactPeriodResult
exact_period_ok p = record {
  status = OK;
  unused = 0;
  period = record {
    years = p.years;
    months = p.months;
    weeks = p.weeks;
    days = p.days;
    duration = record { seconds = cut p.exact (pos second); nanoseconds = subsec_nanoseconds p.exact; unused = 0 };
  };
}

abbrev pub exact_period_error : ℤ → ExactPeriodResult
exact_period_error s = record {
  status = s;
  unused = 0;
  period = record {
    years = no_value;
    months = no_value;
    weeks = no_value;
    days = no_value;
    duration = record { seconds = neg_ℤ (pos 9_223_372_036_854_775_808); nanoseconds = no_value; unused = 0 };
  };
}

-- The result is a period with a property.
abbrev pub IsExactPeriodWith : (Parts → Type 0) → ExactPeriodResult → Type 0
IsExactPeriodWith Has r = (its : Parts) × Has its × (r ≡ exact_period_ok its)

-- The result is the period from a local date-time to a date and a time of day, counted by a unit.
abbrev pub IsPeriodUntilResult : ℤ → ℤ → ℕ → ℕ → ExactPeriodResult → Type 0
IsPeriodUntilResult from date time unit r =
    need IsJulianDay date else r ≡ exact_period_error INVALID_DATE then
    need IsTime time else r ≡ exact_period_error INVALID_TIME then
    need IsUnit unit else r ≡ exact_period_error INVALID_UNIT then
    (its : CalendarUnit) × (unit_number its ≡ unit) × IsExactPeriodWith (IsPeriodUntil its from (date_time (day_of date) time)) r

-- The result is the step that a date and a time of day are in, if a period is repeated from a start.
abbrev pub IsStepOfPair : ℤ → Parts → ℤ → ℕ → NumberResult → Type 0
IsStepOfPair start period date time r =
    need IsJulianDay date else r ≡ number_error INVALID_DATE then
    need IsTime time else r ≡ number_error INVALID_TIME then
    need (start ≤ℤ date_time (day_of date) time) × IsPositive period else r ≡ number_error RESULT_OUT_OF_RANGE then
    IsNumberWith (IsLastStep start (date_time (day_of date) time) period) r
