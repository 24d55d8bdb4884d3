-- The text of an error in the text of a recurrence.
use Rattle.std.specs.Prelude.{ℕ, List, ◌++◌, codes, decimal}
use Rattle.cal_recurrence.specs.declared.fault.ParseRuleError.{ParseRuleError}
use Rattle.cal_recurrence.specs.declared.fault.RulePart.{RulePart}
use Rattle.cal_recurrence.specs.declared.fault.RulePart.TheVariants as part
use Rattle.cal_recurrence.specs.declared.fault.ParseRuleErrorKind.{ParseRuleErrorKind}
use Rattle.cal_recurrence.specs.declared.fault.ParseRuleErrorKind.TheVariants.{Unknown, Twice, TooMany, Value, Excluded, Alone, Missing}

-- The name of a part in RFC 5545.
abbrev pub part_name : RulePart → List ℕ
part_name part.Frequency = codes "FREQ"
part_name part.Interval = codes "INTERVAL"
part_name part.WeekStart = codes "WKST"
part_name part.Months = codes "BYMONTH"
part_name part.Weeks = codes "BYWEEKNO"
part_name part.YearDays = codes "BYYEARDAY"
part_name part.MonthDays = codes "BYMONTHDAY"
part_name part.Weekdays = codes "BYDAY"
part_name part.Hours = codes "BYHOUR"
part_name part.Minutes = codes "BYMINUTE"
part_name part.Seconds = codes "BYSECOND"
part_name part.Positions = codes "BYSETPOS"
part_name part.Until = codes "UNTIL"
part_name part.Count = codes "COUNT"

-- The text of a reason. A COUNT after an UNTIL is a duplicate too, and an UNTIL after a COUNT.
abbrev pub reason_text : ParseRuleErrorKind → List ℕ
reason_text Unknown = codes "unknown part"
reason_text (Twice at) = codes "duplicate " ++ part_name at
reason_text (TooMany at) = codes "too many values in " ++ part_name at
reason_text (Value at) = codes "invalid value of " ++ part_name at
reason_text (Excluded at) = codes "excluded " ++ part_name at
reason_text (Alone at) = codes "no other part with " ++ part_name at
reason_text Missing = codes "missing FREQ"

-- The text of an error: its reason, and its position in decimal.
abbrev pub fault_text : ParseRuleError → List ℕ
fault_text fault = reason_text fault.reason ++ codes " at " ++ decimal fault.position
