-- The text of an error in the lines that begin and end an event.
use Rattle.std.specs.Prelude.{ℕ, List, ◌++◌, codes, decimal}
use Rattle.cal_ics.specs.declared.event_error.ParseEventError.{ParseEventError}
use Rattle.cal_ics.specs.declared.event_error.ParseEventErrorKind.{ParseEventErrorKind}
use Rattle.cal_ics.specs.declared.event_error.ParseEventErrorKind.TheVariants.{Unclosed, OtherEnd}

-- The text of a reason.
abbrev pub event_reason_text : ParseEventErrorKind → List ℕ
event_reason_text Unclosed = codes "VEVENT without END"
event_reason_text OtherEnd = codes "other end of VEVENT"

-- The text of an error: its reason, and its position in decimal.
abbrev pub event_error_text : ParseEventError → List ℕ
event_error_text error = event_reason_text error.reason ++ codes " at " ++ decimal error.position
