-- The errors of the constructors of dates. Each is named after its parameter.
use Rattle.cal_units.specs.declared.error.Component.TheVariants as component
use Rattle.cal_units.specs.declared.error.ComponentRange.{ComponentRange}
use Rattle.cal_units.specs.ComponentError.{unconditional, conditional}

-- The error of a year outside -999999 to 999999.
abbrev pub year_out_of_range : ComponentRange
year_out_of_range = unconditional component.Year

-- The error of a day that its month doesn't have.
abbrev pub day_out_of_range : ComponentRange
day_out_of_range = conditional component.Day

-- The error of an ISO week that its year doesn't have.
abbrev pub week_out_of_range : ComponentRange
week_out_of_range = conditional component.Week

-- The error of a weekday whose week date is after the last day of the range.
abbrev pub weekday_out_of_range : ComponentRange
weekday_out_of_range = conditional component.Weekday

-- The error of an ordinal that its year doesn't have.
abbrev pub ordinal_out_of_range : ComponentRange
ordinal_out_of_range = conditional component.Ordinal

-- The error of a Julian day outside -363521074 to 366963559.
abbrev pub julian_day_out_of_range : ComponentRange
julian_day_out_of_range = unconditional component.JulianDay
