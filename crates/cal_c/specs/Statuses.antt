-- The status of a call is a number, which the constants name.
use Rattle.std.specs.Prelude.{ℤ}
use Rattle.cal_time.specs.declared.error.Component.{Component}
use Rattle.cal_time.specs.declared.error.Component.TheVariants.{Year, Month, JulianDay, Hour, Minute, Second, Millisecond, Microsecond, Nanosecond, OffsetHour, OffsetMinute, OffsetSecond, Seconds, Timestamp, Day, Ordinal, Week, Weekday}
use Rattle.cal_c.specs.declared.status.TheConstants.{YEAR_OUT_OF_RANGE, MONTH_OUT_OF_RANGE, JULIAN_DAY_OUT_OF_RANGE, HOUR_OUT_OF_RANGE, MINUTE_OUT_OF_RANGE, SECOND_OUT_OF_RANGE, MILLISECOND_OUT_OF_RANGE, MICROSECOND_OUT_OF_RANGE, NANOSECOND_OUT_OF_RANGE, OFFSET_HOUR_OUT_OF_RANGE, OFFSET_MINUTE_OUT_OF_RANGE, OFFSET_SECOND_OUT_OF_RANGE, SECONDS_OUT_OF_RANGE, TIMESTAMP_OUT_OF_RANGE, DAY_OUT_OF_RANGE, ORDINAL_OUT_OF_RANGE, WEEK_OUT_OF_RANGE, WEEKDAY_OUT_OF_RANGE}

-- The status of the error of a component.
abbrev pub component_status : Component → ℤ
component_status Year = YEAR_OUT_OF_RANGE
component_status Month = MONTH_OUT_OF_RANGE
component_status JulianDay = JULIAN_DAY_OUT_OF_RANGE
component_status Hour = HOUR_OUT_OF_RANGE
component_status Minute = MINUTE_OUT_OF_RANGE
component_status Second = SECOND_OUT_OF_RANGE
component_status Millisecond = MILLISECOND_OUT_OF_RANGE
component_status Microsecond = MICROSECOND_OUT_OF_RANGE
component_status Nanosecond = NANOSECOND_OUT_OF_RANGE
component_status OffsetHour = OFFSET_HOUR_OUT_OF_RANGE
component_status OffsetMinute = OFFSET_MINUTE_OUT_OF_RANGE
component_status OffsetSecond = OFFSET_SECOND_OUT_OF_RANGE
component_status Seconds = SECONDS_OUT_OF_RANGE
component_status Timestamp = TIMESTAMP_OUT_OF_RANGE
component_status Day = DAY_OUT_OF_RANGE
component_status Ordinal = ORDINAL_OUT_OF_RANGE
component_status Week = WEEK_OUT_OF_RANGE
component_status Weekday = WEEKDAY_OUT_OF_RANGE
