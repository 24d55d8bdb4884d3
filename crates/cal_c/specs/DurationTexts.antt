-- Durations and periods in text for C.
use Rattle.std.specs.Prelude.{ℕ, ◌-◌, ℤ, List, ◌++◌, length, replicate}
use Rattle.cal_duration.specs.declared.error.DurationComponent.{DurationComponent}
use Rattle.cal_duration.specs.declared.error.DurationComponent.TheVariants.{Years, Months, Weeks, Days, Hours, Minutes, Seconds}
use Rattle.cal_duration.specs.declared.error.ParseDurationError.{ParseDurationError}
use Rattle.cal_duration.specs.declared.error.ParseDurationError.TheVariants.{UnexpectedByte, UnexpectedEnd, OutOfRange}
use Rattle.cal_schedule.specs.Period.{Parts}
use Rattle.cal_c.specs.Periods.{exact_period_error, exact_period_ok}
use Rattle.cal_c.specs.Results.{duration_error, duration_ok}
use Rattle.cal_c.specs.Texts.{no_position}
use Rattle.cal_c.specs.declared.status.TheConstants.{OK, DAYS_OUT_OF_RANGE, HOURS_OUT_OF_RANGE, MINUTES_OUT_OF_RANGE, MONTHS_OUT_OF_RANGE, SECONDS_OUT_OF_RANGE, UNEXPECTED_BYTE, UNEXPECTED_END, WEEKS_OUT_OF_RANGE, YEARS_OUT_OF_RANGE}
use Rattle.cal_c.specs.declared.texts.durations.ParseDurationResult.{ParseDurationResult}
use Rattle.cal_c.specs.declared.texts.durations.ParsePeriodResult.{ParsePeriodResult}
use Rattle.cal_c.specs.declared.texts.durations.PeriodTextResult.{PeriodTextResult}

-- The status of the error of a part.
abbrev pub duration_part_status : DurationComponent → ℤ
duration_part_status Years = YEARS_OUT_OF_RANGE
duration_part_status Months = MONTHS_OUT_OF_RANGE
duration_part_status Weeks = WEEKS_OUT_OF_RANGE
duration_part_status Days = DAYS_OUT_OF_RANGE
duration_part_status Hours = HOURS_OUT_OF_RANGE
duration_part_status Minutes = MINUTES_OUT_OF_RANGE
duration_part_status Seconds = SECONDS_OUT_OF_RANGE

-- An error of the form has its position, and an error of a part its status.
abbrev pub of_duration_error : {R : Type 0} → (ℤ → ℕ → R) → ParseDurationError → R
of_duration_error error_at (UnexpectedByte at) = error_at UNEXPECTED_BYTE at
of_duration_error error_at (UnexpectedEnd at) = error_at UNEXPECTED_END at
of_duration_error error_at (OutOfRange why) = error_at (duration_part_status why) no_position

-- The results of parsing: the position is the maximum u64 if the bytes have the form.
abbrev pub parsed_duration_ok : ℤ → ParseDurationResult
parsed_duration_ok v = record { status = OK; unused = 0; duration = (duration_ok v).duration; position = no_position }

abbrev pub parsed_duration_error_at : ℤ → ℕ → ParseDurationResult
parsed_duration_error_at s at = record { status = s; unused = 0; duration = (duration_error s).duration; position = at }

abbrev pub parsed_period_ok : Parts → ParsePeriodResult
parsed_period_ok p = record { status = OK; unused = 0; period = (exact_period_ok p).period; position = no_position }

abbrev pub parsed_period_error_at : ℤ → ℕ → ParsePeriodResult
parsed_period_error_at s at = record { status = s; unused = 0; period = (exact_period_error s).period; position = at }

-- The result with the string of a period, filled with zeros up to 88 bytes.
abbrev pub period_text_ok : List ℕ → PeriodTextResult
period_text_ok text = record { status = OK; length = length text; bytes = text ++ replicate (88 - length text) 0 }

abbrev pub period_text_error : ℤ → PeriodTextResult
period_text_error s = record { status = s; length = 0; bytes = replicate 88 0 }
