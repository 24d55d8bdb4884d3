-- The results of calls. In a result with an error, each number is one that no valid value has.
use Rattle.std.specs.Prelude.{◌≡◌, ℕ, ◌+◌, ℤ, pos, neg_ℤ, ◌+ℤ◌, ◌-ℤ◌, ◌*ℤ◌, ◌≤ℤ◌, Option, Some, None, FitsSigned}
use Rattle.std.specs.Int.{w64}
use Rattle.cal_time.specs.Date.{year_at, month_at, day_of_month_at, ordinal_at, weekday_at, julian_day_at}
use Rattle.cal_time.specs.IsoWeekDate.{iso_year_at, iso_week_at}
use Rattle.cal_time.specs.Pair.{IsPairWithNumber}
use Rattle.cal_time.specs.SignedDuration.{second, day, cut, subsec_nanoseconds, whole_days, IsDuration}
use Rattle.cal_time.specs.Time.{IsTime, hour_of, minute_of, second_of, nanosecond_of}
use Rattle.cal_time.specs.UtcOffset.{whole_hours, minutes_past_hour, seconds_past_minute}
use Rattle.cal_datetime.specs.DateTime.{date_at, time_at}
use Rattle.cal_c.specs.declared.status.TheConstants.{OK, RESULT_OUT_OF_RANGE}
use Rattle.cal_c.specs.Values.{day_of, IsJulianDay}
use Rattle.cal_c.specs.declared.results.DurationResult.{DurationResult}
use Rattle.cal_c.specs.declared.results.DateResult.{DateResult}
use Rattle.cal_c.specs.declared.results.NumberResult.{NumberResult}
use Rattle.cal_c.specs.declared.results.Int64Result.{Int64Result}
use Rattle.cal_c.specs.declared.results.TimeResult.{TimeResult}
use Rattle.cal_c.specs.declared.results.HmsNanoResult.{HmsNanoResult}
use Rattle.cal_c.specs.declared.results.AdjustedTimeResult.{AdjustedTimeResult}
use Rattle.cal_c.specs.declared.results.OffsetResult.{OffsetResult}
use Rattle.cal_c.specs.declared.results.OffsetHmsResult.{OffsetHmsResult}
use Rattle.cal_c.specs.declared.results.PairResult.{PairResult}
use Rattle.cal_c.specs.declared.results.CalendarDateResult.{CalendarDateResult}
use Rattle.cal_c.specs.declared.results.OrdinalDateResult.{OrdinalDateResult}
use Rattle.cal_c.specs.declared.results.IsoWeekDateResult.{IsoWeekDateResult}

-- The minimum i32 is not a date, a year, an offset or a part of one.
abbrev pub no_value : ℤ
no_value = neg_ℤ (pos 2_147_483_648)

-- ---- dates
abbrev pub date_ok : ℤ → DateResult
date_ok j = record { status = OK; date = j }

abbrev pub date_error : ℤ → DateResult
date_error s = record { status = s; date = no_value }

-- The result is a day of the range with a property.
pub record IsDateWith (Has : ℕ → Type 0) (r : DateResult) : Type 0 where
  pub status_is : r.status ≡ OK
  pub in_range : IsJulianDay r.date
  pub has : Has (day_of r.date)

-- The result is the date with the Julian day j, or out of range.
pub record IsDateOrOutOfRange (j : ℤ) (r : DateResult) : Type 0 where
  pub result_out_of_range : (IsJulianDay j → ⊥) → r ≡ date_error RESULT_OUT_OF_RANGE
  pub day : IsJulianDay j → r ≡ date_ok j

-- The result is a day, or out of range for `None`.
abbrev pub date_or_out_of_range : Option ℕ → DateResult
date_or_out_of_range (Some n) = date_ok (julian_day_at n)
date_or_out_of_range None = date_error RESULT_OUT_OF_RANGE

-- ---- parts
abbrev pub number_ok : ℤ → NumberResult
number_ok z = record { status = OK; number = z }

abbrev pub number_error : ℤ → NumberResult
number_error s = record { status = s; number = no_value }

-- The result with the components of day n.
abbrev pub calendar_date_ok : ℕ → CalendarDateResult
calendar_date_ok n = record { status = OK; year = year_at n; month = month_at n; day = day_of_month_at n }

abbrev pub calendar_date_error : ℤ → CalendarDateResult
calendar_date_error s = record { status = s; year = no_value; month = 0; day = 0 }

abbrev pub ordinal_date_ok : ℕ → OrdinalDateResult
ordinal_date_ok n = record { status = OK; year = year_at n; ordinal = ordinal_at n }

abbrev pub ordinal_date_error : ℤ → OrdinalDateResult
ordinal_date_error s = record { status = s; year = no_value; ordinal = 0 }

abbrev pub iso_week_date_ok : ℕ → IsoWeekDateResult
iso_week_date_ok n = record { status = OK; year = iso_year_at n; week = iso_week_at n; weekday = weekday_at n + 1 }

abbrev pub iso_week_date_error : ℤ → IsoWeekDateResult
iso_week_date_error s = record { status = s; year = no_value; week = 0; weekday = 0 }

-- ---- durations
-- The result with the whole seconds and the remaining nanoseconds of v.
abbrev pub duration_ok : ℤ → DurationResult
duration_ok v = record { status = OK; unused = 0; duration = record { seconds = cut v (pos second); nanoseconds = subsec_nanoseconds v; unused = 0 } }

abbrev pub duration_error : ℤ → DurationResult
duration_error s = record { status = s; unused = 0; duration = record { seconds = neg_ℤ (pos 9_223_372_036_854_775_808); nanoseconds = no_value; unused = 0 } }

-- The result is a duration, or out of range for `None`.
abbrev pub duration_or_out_of_range : Option ℤ → DurationResult
duration_or_out_of_range (Some v) = duration_ok v
duration_or_out_of_range None = duration_error RESULT_OUT_OF_RANGE

-- The result is the duration of v nanoseconds, or out of range.
pub record IsDurationOrOutOfRange (v : ℤ) (r : DurationResult) : Type 0 where
  pub result_out_of_range : (IsDuration v → ⊥) → r ≡ duration_error RESULT_OUT_OF_RANGE
  pub duration : IsDuration v → r ≡ duration_ok v

abbrev pub int64_ok : ℤ → Int64Result
int64_ok z = record { status = OK; unused = 0; number = z }

abbrev pub int64_error : ℤ → Int64Result
int64_error s = record { status = s; unused = 0; number = neg_ℤ (pos 9_223_372_036_854_775_808) }

-- The result is the number z, or out of range if it doesn't fit in 64 bits.
pub record IsInt64OrOutOfRange (z : ℤ) (r : Int64Result) : Type 0 where
  pub result_out_of_range : (FitsSigned w64 z → ⊥) → r ≡ int64_error RESULT_OUT_OF_RANGE
  pub number : FitsSigned w64 z → r ≡ int64_ok z

-- ---- times
abbrev pub time_ok : ℕ → TimeResult
time_ok t = record { status = OK; unused = 0; time = t }

-- The maximum u64 is not a time of day.
abbrev pub time_error : ℤ → TimeResult
time_error s = record { status = s; unused = 0; time = 18_446_744_073_709_551_615 }

abbrev pub hms_nano_ok : ℕ → HmsNanoResult
hms_nano_ok t = record { status = OK; hour = hour_of t; minute = minute_of t; second = second_of t; nanosecond = nanosecond_of t }

abbrev pub hms_nano_error : ℤ → HmsNanoResult
hms_nano_error s = record { status = s; hour = 4_294_967_295; minute = 4_294_967_295; second = 4_294_967_295; nanosecond = 4_294_967_295 }

abbrev pub adjusted_time_ok : ℤ → ℕ → AdjustedTimeResult
adjusted_time_ok c t = record { status = OK; carry = c; time = t }

abbrev pub adjusted_time_error : ℤ → AdjustedTimeResult
adjusted_time_error s = record { status = s; carry = no_value; time = 18_446_744_073_709_551_615 }

-- The result is the time v later, and the days carried beyond the whole days of v. The carry is 0
-- or has the sign of v.
pub record IsAddAdjusted (t : ℕ) (v : ℤ) (r : AdjustedTimeResult) : Type 0 where
  pub status_is : r.status ≡ OK
  pub is_time : IsTime r.time
  pub equation : pos t +ℤ v ≡ (whole_days v +ℤ r.carry) *ℤ pos day +ℤ pos r.time
  pub forward : pos 0 ≤ℤ v → pos 0 ≤ℤ r.carry
  pub backward : v ≤ℤ pos 0 → r.carry ≤ℤ pos 0

-- The result is the time v earlier, and the days carried beyond the whole days of v. The carry is 0
-- or has the opposite sign.
pub record IsSubAdjusted (t : ℕ) (v : ℤ) (r : AdjustedTimeResult) : Type 0 where
  pub status_is : r.status ≡ OK
  pub is_time : IsTime r.time
  pub equation : pos t -ℤ v ≡ (r.carry -ℤ whole_days v) *ℤ pos day +ℤ pos r.time
  pub backward : pos 0 ≤ℤ v → r.carry ≤ℤ pos 0
  pub forward : v ≤ℤ pos 0 → pos 0 ≤ℤ r.carry

-- ---- offsets
abbrev pub offset_ok : ℤ → OffsetResult
offset_ok o = record { status = OK; offset = o }

abbrev pub offset_error : ℤ → OffsetResult
offset_error s = record { status = s; offset = no_value }

abbrev pub offset_hms_ok : ℤ → OffsetHmsResult
offset_hms_ok o = record { status = OK; hours = whole_hours o; minutes = minutes_past_hour o; seconds = seconds_past_minute o }

abbrev pub offset_hms_error : ℤ → OffsetHmsResult
offset_hms_error s = record { status = s; hours = no_value; minutes = no_value; seconds = no_value }

-- ---- a date and a time
abbrev pub pair_ok : ℕ → ℕ → PairResult
pair_ok n t = record { status = OK; date = julian_day_at n; time = t }

abbrev pub pair_error : ℤ → PairResult
pair_error s = record { status = s; date = no_value; time = 18_446_744_073_709_551_615 }

abbrev pub pair_or_out_of_range : Option (ℕ × ℕ) → PairResult
pair_or_out_of_range (Some pair) = pair_ok pair.0 pair.1
pair_or_out_of_range None = pair_error RESULT_OUT_OF_RANGE

-- The result with the day and the time of a local date-time.
abbrev pub pair_at_local : ℤ → PairResult
pair_at_local z = pair_ok (date_at z) (time_at z)

-- The result is the day and the time of the pair with this number, or out of range.
abbrev pub IsPairOrOutOfRange : ℤ → PairResult → Type 0
IsPairOrOutOfRange z r = (pair : Option (ℕ × ℕ)) × IsPairWithNumber z pair × (r ≡ pair_or_out_of_range pair)
