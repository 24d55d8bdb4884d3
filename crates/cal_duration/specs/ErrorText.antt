-- The text of an error.
use Rattle.std.specs.Prelude.{ℕ, List, ◌++◌, codes, decimal}
use Rattle.cal_duration.specs.declared.error.DurationComponent.{DurationComponent}
use Rattle.cal_duration.specs.declared.error.DurationComponent.TheVariants.{Years, Months, Weeks, Days, Hours, Minutes, Seconds}
use Rattle.cal_duration.specs.declared.error.ParseDurationError.{ParseDurationError}
use Rattle.cal_duration.specs.declared.error.ParseDurationError.TheVariants.{UnexpectedByte, UnexpectedEnd, OutOfRange}

-- The name of a part, which the error prints.
abbrev pub component_name : DurationComponent → List ℕ
component_name Years = codes "years"
component_name Months = codes "months"
component_name Weeks = codes "weeks"
component_name Days = codes "days"
component_name Hours = codes "hours"
component_name Minutes = codes "minutes"
component_name Seconds = codes "seconds"

-- An error of the form prints its position, and an error of a part the part's name.
abbrev pub error_text : ParseDurationError → List ℕ
error_text (UnexpectedByte position) = codes "unexpected byte at " ++ decimal position
error_text (UnexpectedEnd position) = codes "unexpected end at " ++ decimal position
error_text (OutOfRange c) = component_name c ++ codes " was not in range"
