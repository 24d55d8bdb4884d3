-- The text of an error.
use Rattle.std.specs.Prelude.{ℕ, List, ◌++◌, codes, decimal}
use Rattle.cal_time.specs.ComponentError as component
use Rattle.cal_duration.specs.ErrorText as part
use Rattle.cal_interval.specs.declared.error.IntervalComponent.{IntervalComponent}
use Rattle.cal_interval.specs.declared.error.IntervalComponent.TheVariants.{End, Period}
use Rattle.cal_interval.specs.declared.error.IntervalError.{IntervalError}
use Rattle.cal_interval.specs.declared.error.IntervalError.TheVariants as reason
use Rattle.cal_interval.specs.declared.error.ParseIntervalError.{ParseIntervalError}
use Rattle.cal_interval.specs.declared.error.ParseIntervalError.TheVariants.{UnexpectedByte, UnexpectedEnd, OutOfRange}

-- The name of a component of an end, or of a part of the period.
abbrev pub name_of : IntervalComponent → List ℕ
name_of (End e) = component.component_name e.component
name_of (Period c) = part.component_name c

-- An error of the form prints its position, and an error of a part the part's name.
abbrev pub error_text : ParseIntervalError → List ℕ
error_text (UnexpectedByte position) = codes "unexpected byte at " ++ decimal position
error_text (UnexpectedEnd position) = codes "unexpected end at " ++ decimal position
error_text (OutOfRange c) = name_of c ++ codes " was not in range"

-- The text of the reason why an interval has no range or can't be repeated.
abbrev pub interval_error_text : IntervalError → List ℕ
interval_error_text reason.EndBeforeStart = codes "the end is before the start"
interval_error_text reason.HasDuration = codes "the period has hours, minutes or seconds"
interval_error_text reason.OutOfRange = codes "the start or the end is out of range"
interval_error_text reason.MissingStart = codes "the interval has no start"
interval_error_text reason.NotPositive = codes "the period is not positive"
interval_error_text reason.CountOutOfRange = codes "the number of occurrences is out of range"
