-- Recurrences in text: their days, their own text, or the first wrong part.
use Rattle.std.specs.Prelude.{ℕ, ◌-◌, ℤ, List, ◌++◌, length, replicate, Result, Ok, Err}
use Rattle.cal_recurrence.specs.declared.fault.ParseRuleError.{ParseRuleError}
use Rattle.cal_recurrence.specs.declared.fault.RulePart.{RulePart}
use Rattle.cal_recurrence.specs.declared.fault.RulePart.TheVariants.{Frequency, Interval, WeekStart, Months, MonthDays, Weekdays, Until, Count, Positions, YearDays, Weeks, Hours, Minutes, Seconds}
use Rattle.cal_recurrence.specs.declared.fault.ParseRuleErrorKind.{ParseRuleErrorKind}
use Rattle.cal_recurrence.specs.declared.fault.ParseRuleErrorKind.TheVariants.{Unknown, Twice, TooMany, Value, Excluded, Alone, Missing}
use Rattle.cal_recurrence.specs.Written.{text_of}
use Rattle.cal_recurrence.specs.declared.recurrence.Recurrence.{Recurrence}
use Rattle.cal_c.specs.declared.status.TheConstants.{OK, UNKNOWN_PART, DUPLICATE_PART, TOO_MANY_VALUES, INVALID_VALUE, MISSING_FREQUENCY}
use Rattle.cal_c.specs.Texts.{no_position}
use Rattle.cal_c.specs.declared.schedule.recurrences.results.RecurrenceResult.{RecurrenceResult}
use Rattle.cal_c.specs.declared.schedule.recurrences.formatting.RecurrenceTextResult.{RecurrenceTextResult}

-- Parts are numbered from 1, `FREQ`.
abbrev pub part_number : RulePart → ℕ
part_number Frequency = 1
part_number Interval = 2
part_number WeekStart = 3
part_number Months = 4
part_number MonthDays = 5
part_number Weekdays = 6
part_number Until = 7
part_number Count = 8
part_number Positions = 9
part_number YearDays = 10
part_number Weeks = 11
part_number Hours = 12
part_number Minutes = 13
part_number Seconds = 14

-- The status of a reason.
abbrev pub reason_status : ParseRuleErrorKind → ℤ
reason_status Unknown = UNKNOWN_PART
reason_status (Twice part) = DUPLICATE_PART
reason_status (TooMany part) = TOO_MANY_VALUES
reason_status (Value part) = INVALID_VALUE
reason_status (Excluded part) = INVALID_VALUE
reason_status (Alone part) = INVALID_VALUE
reason_status Missing = MISSING_FREQUENCY

-- The number of the part of a reason, or 0.
abbrev pub error_part : ParseRuleErrorKind → ℕ
error_part Unknown = 0
error_part (Twice part) = part_number part
error_part (TooMany part) = part_number part
error_part (Value part) = part_number part
error_part (Excluded part) = part_number part
error_part (Alone part) = part_number part
error_part Missing = 0

-- The result with a number of days written.
abbrev pub recurrence_ok : ℕ → RecurrenceResult
recurrence_ok count = record { status = OK; part = 0; length = count; position = no_position }

-- The result with an error outside the string.
abbrev pub recurrence_error : ℤ → RecurrenceResult
recurrence_error s = record { status = s; part = 0; length = 0; position = no_position }

-- The result with the first wrong part of the string.
abbrev pub recurrence_parse_error : ParseRuleError → RecurrenceResult
recurrence_parse_error fault =
    record { status = reason_status fault.reason; part = error_part fault.reason; length = 0; position = fault.position }

-- The result with a string, filled with zeros up to 4064 bytes.
abbrev pub recurrence_text_ok : List ℕ → RecurrenceTextResult
recurrence_text_ok text =
    record { status = OK; part = 0; position = no_position; length = length text; bytes = text ++ replicate (4064 - length text) 0; unused = 0 }

-- The result with the first wrong part of the string.
abbrev pub recurrence_text_error : ParseRuleError → RecurrenceTextResult
recurrence_text_error fault =
    record { status = reason_status fault.reason; part = error_part fault.reason; position = fault.position; length = 0; bytes = replicate 4064 0; unused = 0 }

-- The result of parsing a string and writing its recurrence.
abbrev pub recurrence_text_result : Result Recurrence ParseRuleError → RecurrenceTextResult
recurrence_text_result (Ok its) = recurrence_text_ok (text_of its)
recurrence_text_result (Err fault) = recurrence_text_error fault
