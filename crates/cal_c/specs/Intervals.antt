-- Intervals and repeated intervals in text for C.
use Rattle.std.specs.Prelude.{◌≡◌, ℕ, ℤ, Option, Some, None, Result, Ok, Err, IfErr, IfOk}
use Rattle.cal_time.specs.Date.{julian_day_at}
use Rattle.cal_datetime.specs.DateTime.{date_at, time_at}
use Rattle.cal_schedule.specs.Ranges.{Range}
use Rattle.cal_interval.specs.DateTimeRanges as pairs
use Rattle.cal_interval.specs.Ranges.{IsRangeOf}
use Rattle.cal_interval.specs.DateTimeRepeats as repeats
use Rattle.cal_interval.specs.Repeats.{IsIntervalError, IsIntervalRepeated, IsRepeatError, IsRepeatOf}
use Rattle.cal_interval.specs.declared.date.interval.DateInterval.{DateInterval}
use Rattle.cal_interval.specs.declared.date.repeated.RepeatedDates.{RepeatedDates}
use Rattle.cal_interval.specs.declared.error.IntervalComponent.{IntervalComponent}
use Rattle.cal_interval.specs.declared.error.IntervalComponent.TheVariants as parts
use Rattle.cal_interval.specs.declared.error.IntervalError.{IntervalError}
use Rattle.cal_interval.specs.declared.error.IntervalError.TheVariants as errors
use Rattle.cal_interval.specs.declared.error.ParseIntervalError.{ParseIntervalError}
use Rattle.cal_interval.specs.declared.error.ParseIntervalError.TheVariants.{UnexpectedByte, UnexpectedEnd, OutOfRange}
use Rattle.cal_interval.specs.declared.plain.interval.DateTimeInterval.{DateTimeInterval}
use Rattle.cal_interval.specs.declared.plain.repeated.RepeatedDateTimes.{RepeatedDateTimes}
use Rattle.cal_c.specs.DurationTexts.{duration_part_status}
use Rattle.cal_c.specs.Periods.{exact_period_error, exact_period_ok}
use Rattle.cal_c.specs.Results.{no_value}
use Rattle.cal_c.specs.Statuses.{component_status}
use Rattle.cal_c.specs.Texts.{no_position}
use Rattle.cal_c.specs.declared.status.TheConstants.{OK, COUNT_OUT_OF_RANGE, END_BEFORE_START, MISSING_START, PERIOD_HAS_DURATION, PERIOD_NOT_POSITIVE, RESULT_OUT_OF_RANGE, UNEXPECTED_BYTE, UNEXPECTED_END}
use Rattle.cal_c.specs.declared.texts.intervals.ranges.ParseDateRangeResult.{ParseDateRangeResult}
use Rattle.cal_c.specs.declared.texts.intervals.ranges.ParsePairRangeResult.{ParsePairRangeResult}
use Rattle.cal_c.specs.declared.texts.intervals.repeated_pairs.ParseRepeatedPairsResult.{ParseRepeatedPairsResult}
use Rattle.cal_c.specs.declared.texts.intervals.repeats.ParseRepeatedDatesResult.{ParseRepeatedDatesResult}

-- The status of a part that is out of range, and of an interval without a range.
abbrev pub interval_part_status : IntervalComponent → ℤ
interval_part_status (parts.End c) = component_status c.component
interval_part_status (parts.Period c) = duration_part_status c

abbrev pub interval_status : IntervalError → ℤ
interval_status errors.EndBeforeStart = END_BEFORE_START
interval_status errors.HasDuration = PERIOD_HAS_DURATION
interval_status errors.OutOfRange = RESULT_OUT_OF_RANGE
interval_status errors.MissingStart = MISSING_START
interval_status errors.NotPositive = PERIOD_NOT_POSITIVE
interval_status errors.CountOutOfRange = COUNT_OUT_OF_RANGE

-- An error of the form has its position, and an error of a part its status.
abbrev pub of_interval_error : {R : Type 0} → (ℤ → ℕ → R) → ParseIntervalError → R
of_interval_error error_at (UnexpectedByte at) = error_at UNEXPECTED_BYTE at
of_interval_error error_at (UnexpectedEnd at) = error_at UNEXPECTED_END at
of_interval_error error_at (OutOfRange why) = error_at (interval_part_status why) no_position

-- ---- ranges, or the reason why an interval has none
abbrev pub parsed_range_ok : Range → ParseDateRangeResult
parsed_range_ok r = record { status = OK; start = julian_day_at r.start; end = julian_day_at r.end; unused = 0; position = no_position }

abbrev pub parsed_range_error_at : ℤ → ℕ → ParseDateRangeResult
parsed_range_error_at s at = record { status = s; start = no_value; end = no_value; unused = 0; position = at }

abbrev pub range_or_error : Result Range IntervalError → ParseDateRangeResult
range_or_error (Ok r) = parsed_range_ok r
range_or_error (Err e) = parsed_range_error_at (interval_status e) no_position

abbrev pub IsRangeResult : DateInterval → ParseDateRangeResult → Type 0
IsRangeResult v r = (its : Result Range IntervalError) × IsRangeOf v its × (r ≡ range_or_error its)

abbrev pub parsed_pairs_ok : pairs.Range → ParsePairRangeResult
parsed_pairs_ok r = record {
  status = OK;
  start_date = julian_day_at (date_at r.start);
  start_time = time_at r.start;
  end_time = time_at r.end;
  end_date = julian_day_at (date_at r.end);
  unused = 0;
  position = no_position;
}

abbrev pub parsed_pairs_error_at : ℤ → ℕ → ParsePairRangeResult
parsed_pairs_error_at s at = record {
  status = s;
  start_date = no_value;
  start_time = 18_446_744_073_709_551_615;
  end_time = 18_446_744_073_709_551_615;
  end_date = no_value;
  unused = 0;
  position = at;
}

abbrev pub pairs_or_error : Result pairs.Range IntervalError → ParsePairRangeResult
pairs_or_error (Ok r) = parsed_pairs_ok r
pairs_or_error (Err e) = parsed_pairs_error_at (interval_status e) no_position

abbrev pub IsPairRangeResult : DateTimeInterval → ParsePairRangeResult → Type 0
IsPairRangeResult v r = (its : Result pairs.Range IntervalError) × pairs.IsDateTimeRangeOf v its × (r ≡ pairs_or_error its)

-- ---- repetitions, or the reason why an interval has none. 0 occurrences have no end.
abbrev pub count_or_none : Option ℕ → ℕ
count_or_none (Some n) = n
count_or_none None = 0

abbrev pub repeated_dates_ok : RepeatedDates → ParseRepeatedDatesResult
repeated_dates_ok r = record {
  status = OK;
  start = julian_day_at r.start;
  count = count_or_none r.count;
  unused = 0;
  period = (exact_period_ok r.period).period;
  position = no_position;
}

abbrev pub repeated_dates_error_at : ℤ → ℕ → ParseRepeatedDatesResult
repeated_dates_error_at s at = record { status = s; start = no_value; count = 0; unused = 0; period = (exact_period_error s).period; position = at }

abbrev pub dates_or_error : Result RepeatedDates IntervalError → ParseRepeatedDatesResult
dates_or_error (Ok r) = repeated_dates_ok r
dates_or_error (Err e) = repeated_dates_error_at (interval_status e) no_position

-- The result of the repetition of an interval, if it has one, or of the reason why it has none.
abbrev pub IsRepeatedResult : {I R C : Type 0} → (I → Option ℕ → R → Type 0) → (I → IntervalError → Type 0) → (Result R IntervalError → C) → Option ℕ × I → C → Type 0
IsRepeatedResult {I} {R} {C} IsRepetition IsError value_or_error v r =
    (its : Result R IntervalError) × IfOk its (IsRepeatOf IsRepetition v.0 v.1) × IfErr its (IsRepeatError IsError v.0 v.1) × (r ≡ value_or_error its)

abbrev pub IsRepeatedDatesResult : Option ℕ × DateInterval → ParseRepeatedDatesResult → Type 0
IsRepeatedDatesResult = IsRepeatedResult IsIntervalRepeated IsIntervalError dates_or_error

-- ---- the same for local date-times
abbrev pub repeated_pairs_ok : RepeatedDateTimes → ParseRepeatedPairsResult
repeated_pairs_ok r = record {
  status = OK;
  start_date = julian_day_at (date_at r.start);
  start_time = time_at r.start;
  count = count_or_none r.count;
  unused = 0;
  period = (exact_period_ok r.period).period;
  position = no_position;
}

abbrev pub repeated_pairs_error_at : ℤ → ℕ → ParseRepeatedPairsResult
repeated_pairs_error_at s at = record {
  status = s;
  start_date = no_value;
  start_time = 18_446_744_073_709_551_615;
  count = 0;
  unused = 0;
  period = (exact_period_error s).period;
  position = at;
}

abbrev pub repeated_pairs_or_error : Result RepeatedDateTimes IntervalError → ParseRepeatedPairsResult
repeated_pairs_or_error (Ok r) = repeated_pairs_ok r
repeated_pairs_or_error (Err e) = repeated_pairs_error_at (interval_status e) no_position

abbrev pub IsRepeatedPairsResult : Option ℕ × DateTimeInterval → ParseRepeatedPairsResult → Type 0
IsRepeatedPairsResult = IsRepeatedResult repeats.IsIntervalRepeated repeats.IsIntervalError repeated_pairs_or_error
