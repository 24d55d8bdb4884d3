-- The errors of constructors: a component, and whether its range depends on other components.
use Rattle.std.specs.Prelude.{◌≡◌, ℕ, List, true, false, codes, Result, IsErrAnd}
use Rattle.cal_units.specs.declared.error.Component.{Component}
use Rattle.cal_units.specs.declared.error.Component.TheVariants.{Year, Month, Day, Ordinal, Week, Weekday, JulianDay, Hour, Minute, Second, Millisecond, Microsecond, Nanosecond, OffsetHour, OffsetMinute, OffsetSecond, Seconds, Timestamp}
use Rattle.cal_units.specs.declared.error.ComponentRange.{ComponentRange}

-- The name of a component, which the error prints.
abbrev pub component_name : Component → List ℕ
component_name Year = codes "year"
component_name Month = codes "month"
component_name Day = codes "day"
component_name Ordinal = codes "ordinal"
component_name Week = codes "week"
component_name Weekday = codes "weekday"
component_name JulianDay = codes "julian_day"
component_name Hour = codes "hour"
component_name Minute = codes "minute"
component_name Second = codes "second"
component_name Millisecond = codes "millisecond"
component_name Microsecond = codes "microsecond"
component_name Nanosecond = codes "nanosecond"
component_name OffsetHour = codes "offset hour"
component_name OffsetMinute = codes "offset minute"
component_name OffsetSecond = codes "offset second"
component_name Seconds = codes "seconds"
component_name Timestamp = codes "timestamp"

-- The error of a component whose range is always the same.
abbrev pub unconditional : Component → ComponentRange
unconditional c = record { component = c; is_conditional = false }

-- The error of a component whose range depends on other components.
abbrev pub conditional : Component → ComponentRange
conditional c = record { component = c; is_conditional = true }

-- The result is exactly this error.
abbrev pub FailsWith : {V : Type 0} → ComponentRange → Result V ComponentRange → Type 0
FailsWith why r = IsErrAnd r (λ e. e ≡ why)
