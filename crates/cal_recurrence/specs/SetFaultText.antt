-- The text of an error in the text of a recurrence set.
use Rattle.std.specs.Prelude.{ℕ, List, ◌++◌, codes, decimal}
use Rattle.cal_recurrence.specs.declared.set_fault.ParseSetError.{ParseSetError}
use Rattle.cal_recurrence.specs.declared.set_fault.ParseSetErrorKind.{ParseSetErrorKind}
use Rattle.cal_recurrence.specs.declared.set_fault.ParseSetErrorKind.TheVariants.{Unknown, Twice, TooMany, Value, OtherZone, Rule, Missing}
use Rattle.cal_recurrence.specs.declared.set_fault.SetLine.{SetLine}
use Rattle.cal_recurrence.specs.declared.set_fault.SetLine.TheVariants as line

-- The name of a line in RFC 5545.
abbrev pub line_name : SetLine → List ℕ
line_name line.Start = codes "DTSTART"
line_name line.Rule = codes "RRULE"
line_name line.Dates = codes "RDATE"
line_name line.Exceptions = codes "EXDATE"

-- The text of a reason.
abbrev pub set_reason_text : ParseSetErrorKind → List ℕ
set_reason_text Unknown = codes "unknown line"
set_reason_text (Twice at) = codes "duplicate " ++ line_name at
set_reason_text (TooMany at) = codes "too many values in " ++ line_name at
set_reason_text (Value at) = codes "invalid value of " ++ line_name at
set_reason_text (OtherZone at) = codes "another zone in " ++ line_name at
set_reason_text (Rule fault) = codes "invalid RRULE"
set_reason_text Missing = codes "missing DTSTART"

-- The text of an error: its reason, and its position in decimal.
abbrev pub set_fault_text : ParseSetError → List ℕ
set_fault_text fault = set_reason_text fault.reason ++ codes " at " ++ decimal fault.position
