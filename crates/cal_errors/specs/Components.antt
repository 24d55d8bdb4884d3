-- The sentence of a component that is out of range: its name, its value, its range and what the range
-- depends on, as in "day 29 is out of range 1 to 28 (February 2023)".
use Rattle.std.specs.Prelude.{ℕ, ◌-◌, ◌||◌, Bool, ℤ, pos, neg_ℤ, int_lt, unsigned_abs, List, [], ◌++◌, codes, Option, Some, None, if◌then◌else◌}
use Rattle.std.specs.Fmt.{signed_decimal}
use Rattle.cal_units.specs.ComponentError.{component_name}
use Rattle.cal_units.specs.declared.error.Component.{Component}
use Rattle.cal_units.specs.declared.error.Component.TheVariants.{Year, Month, Day, Ordinal, Week, Weekday, JulianDay, Hour, Minute, Second, Millisecond, Microsecond, Nanosecond, OffsetHour, OffsetMinute, OffsetSecond, Seconds, Timestamp}
use Rattle.cal_units.specs.declared.month.Month as month
use Rattle.cal_units.specs.Lengths.{days_in_month, days_in_year}
use Rattle.cal_units.specs.Month.{month_of_index, name, number}
use Rattle.cal_units.specs.Weeks.{weeks_in_year}
use Rattle.cal_errors.specs.declared.bounds.Bounds.{Bounds}
use Rattle.cal_errors.specs.declared.bounds.Place.{Place}
use Rattle.cal_errors.specs.declared.bounds.Place.TheVariants as place
use Rattle.cal_errors.specs.declared.components.Components.{Components}

-- ---- the words
-- The name that the error of the component prints, without an underscore.
abbrev pub name_of : Component → List ℕ
name_of JulianDay = codes "julian day"
name_of c = component_name c

abbrev pub place_text : Place → List ℕ
place_text place.Anywhere = []
place_text (place.Year y) = codes " (" ++ (signed_decimal y ++ codes ")")
place_text (place.Month y m) = codes " (" ++ (name m ++ (codes " " ++ (signed_decimal y ++ codes ")")))

abbrev pub range_text : Bounds → List ℕ
range_text b = signed_decimal b.min ++ (codes " to " ++ (signed_decimal b.max ++ place_text b.place))

abbrev pub outside_text : Component → Bounds → List ℕ
outside_text c b = name_of c ++ (codes " " ++ (signed_decimal b.value ++ (codes " is out of range " ++ range_text b)))

-- ---- the ranges
abbrev pub is_outside : Bounds → Bool
is_outside b = int_lt b.value b.min || int_lt b.max b.value

-- The sentence, if the value is out of its range.
abbrev pub sentence_in : Component → Option Bounds → Option (List ℕ)
sentence_in c None = None
sentence_in c (Some b) = if is_outside b then Some (outside_text c b) else None

-- A year of the calendar, and a month by its number from 1.
abbrev pub year_of : ℤ → Option ℤ
year_of y = if int_lt y (neg_ℤ (pos 999_999)) || int_lt (pos 999_999) y then None else Some y

abbrev pub month_of : ℤ → Option month.Month
month_of m = if int_lt m (pos 1) || int_lt (pos 12) m then None else Some (month_of_index (unsigned_abs m - 1))

abbrev pub always : ℤ → ℤ → ℤ → Bounds
always value min max = record { value = value; min = min; max = max; place = place.Anywhere }

abbrev pub day_bounds : ℤ → Option ℤ → Option month.Month → Option Bounds
day_bounds d (Some y) (Some m) = Some (record { value = d; min = pos 1; max = pos (days_in_month y (number m)); place = place.Month y m })
day_bounds d _ _ = None

abbrev pub ordinal_bounds : ℤ → Option ℤ → Option Bounds
ordinal_bounds o None = None
ordinal_bounds o (Some y) = Some (record { value = o; min = pos 1; max = pos (days_in_year y); place = place.Year y })

abbrev pub week_bounds : ℤ → Option ℤ → Option Bounds
week_bounds w None = None
week_bounds w (Some y) = Some (record { value = w; min = pos 1; max = pos (weeks_in_year y); place = place.Year y })

-- The value of a component among those that were passed, and its range. Days depend on the month,
-- ordinals and weeks on the year. A weekday has no range: only the end of the calendar rejects one.
abbrev pub bounds_of : Component → Components → Option Bounds
bounds_of Year c = Some (always c.year (neg_ℤ (pos 999_999)) (pos 999_999))
bounds_of Month c = Some (always c.month (pos 1) (pos 12))
bounds_of Day c = day_bounds c.day (year_of c.year) (month_of c.month)
bounds_of Ordinal c = ordinal_bounds c.ordinal (year_of c.year)
bounds_of Week c = week_bounds c.week (year_of c.year)
bounds_of Weekday c = None
bounds_of JulianDay c = Some (always c.julian_day (neg_ℤ (pos 363_521_074)) (pos 366_963_559))
bounds_of Hour c = Some (always c.hour (pos 0) (pos 23))
bounds_of Minute c = Some (always c.minute (pos 0) (pos 59))
bounds_of Second c = Some (always c.second (pos 0) (pos 59))
bounds_of Millisecond c = Some (always c.millisecond (pos 0) (pos 999))
bounds_of Microsecond c = Some (always c.microsecond (pos 0) (pos 999_999))
bounds_of Nanosecond c = Some (always c.nanosecond (pos 0) (pos 999_999_999))
bounds_of OffsetHour c = Some (always c.offset_hour (neg_ℤ (pos 25)) (pos 25))
bounds_of OffsetMinute c = Some (always c.offset_minute (neg_ℤ (pos 59)) (pos 59))
bounds_of OffsetSecond c = Some (always c.offset_second (neg_ℤ (pos 59)) (pos 59))
bounds_of Seconds c = Some (always c.seconds (neg_ℤ (pos 93_599)) (pos 93_599))
bounds_of Timestamp c = Some (always c.timestamp (neg_ℤ (pos 31_619_087_596_800)) (pos 31_494_784_780_799))
