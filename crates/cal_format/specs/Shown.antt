-- The components that items show.
use Rattle.std.specs.Prelude.{◌≡◌, ℕ, ◌+◌, List, [], ◌∷◌, min, max, Option, Some, None, Bool, true, false, not, ◌&&◌, ◌||◌, if◌then◌else◌}
use Rattle.cal_format.specs.declared.item.Item.{Item}
use Rattle.cal_format.specs.declared.item.Item.TheVariants as item
use Rattle.cal_format.specs.declared.item.Component.{Component}
use Rattle.cal_format.specs.declared.item.Component.TheVariants.{Year, Century, YearOfCentury, IsoYear, Month, Day, Ordinal, IsoWeek, Weekday, DaysFromMonday, DaysFromSunday, SundayWeekday, SundayWeek, MondayWeek, Hour, Hour12, Minute, Second, Period, Subsecond1, Subsecond2, Millisecond, Subsecond4, Subsecond5, Microsecond, Subsecond7, Subsecond8, Nanosecond}
use Rattle.cal_format.specs.declared.item.Padding.TheVariants as padding
use Rattle.cal_format.specs.declared.shown.Shown.{Shown}
use Rattle.cal_format.specs.Reading.{index, item_component, any_shows, mark_of}

-- The index of an item's component, or 34, and the index after it, or 0. No range has an
-- abbreviation, whose index is past all others.
abbrev pub low_of : Option Component → ℕ
low_of None = 34
low_of (Some c) = index c

abbrev pub component_end : Option Component → ℕ
component_end None = 0
component_end (Some c) = index c + 1

abbrev pub end_of : Item → ℕ
end_of item.Abbreviation = 35
end_of i = component_end (item_component i)

-- The minimum index of the items, and the end of the range of their indices.
abbrev pub lowest : List Item → ℕ
lowest [] = 34
lowest (i ∷ items) = min (low_of (item_component i)) (lowest items)

abbrev pub highest : List Item → ℕ
highest [] = 0
highest (i ∷ items) = max (end_of i) (highest items)

-- An item ends before any item that follows it, and so does each item. The width of a number
-- without padding varies, as do the widths of a fraction and of a minus sign that may be missing.
abbrev pub is_fixed : Item → Bool
is_fixed (item.Number c padding.None) = false
is_fixed (item.Signed c padding.None) = false
is_fixed item.Fraction = false
is_fixed item.Decimals = false
is_fixed item.OffsetMinus = false
is_fixed item.TimestampMinus = false
is_fixed _ = true

abbrev pub are_fixed : List Item → Bool
are_fixed [] = true
are_fixed (i ∷ items) = is_fixed i && are_fixed items

-- The marks and the range of the components that the items show, and whether each item has a fixed
-- end.
pub record AreShown (items : List Item) (s : Shown) : Type 0 where
  pub marks : (c : Component) → mark_of c s.marks ≡ any_shows c items
  pub low : s.low ≡ lowest items
  pub end : s.end ≡ highest items
  pub fixed : s.is_fixed ≡ are_fixed items

-- A component of a date is shown that no calendar date, ordinal date or week date has.
abbrev pub shows_rare : List Bool → Bool
shows_rare m =
    mark_of Century m || (mark_of YearOfCentury m || (mark_of DaysFromMonday m || (mark_of DaysFromSunday m || (mark_of SundayWeekday m || (mark_of SundayWeek m || mark_of MondayWeek m)))))

-- A calendar date is shown, perhaps with its weekday, or an ordinal date, or a week date, and no
-- other component of a date.
abbrev pub is_calendar : List Bool → Bool
is_calendar m =
    (mark_of Year m && (mark_of Month m && mark_of Day m)) && not (mark_of IsoYear m || (mark_of Ordinal m || (mark_of IsoWeek m || shows_rare m)))

abbrev pub is_ordinal : List Bool → Bool
is_ordinal m =
    (mark_of Year m && mark_of Ordinal m) && not (mark_of IsoYear m || (mark_of Month m || (mark_of Day m || (mark_of IsoWeek m || (mark_of Weekday m || shows_rare m)))))

abbrev pub is_week : List Bool → Bool
is_week m =
    (mark_of IsoYear m && (mark_of IsoWeek m && mark_of Weekday m)) && not (mark_of Year m || (mark_of Month m || (mark_of Day m || (mark_of Ordinal m || shows_rare m))))

-- An hour is shown, by one number or by a half of the day, and no second without a minute, no part
-- of a second without a second, and at most one such part, in milliseconds, microseconds or
-- nanoseconds.
abbrev pub shows_hour_once : List Bool → Bool
shows_hour_once m = if mark_of Hour m then not (mark_of Hour12 m || mark_of Period m) else mark_of Hour12 m && mark_of Period m

abbrev pub shows_rare_part : List Bool → Bool
shows_rare_part m = mark_of Subsecond1 m || (mark_of Subsecond2 m || (mark_of Subsecond4 m || (mark_of Subsecond5 m || (mark_of Subsecond7 m || mark_of Subsecond8 m))))

abbrev pub shows_one_part : List Bool → Bool
shows_one_part m =
    if mark_of Nanosecond m then not (mark_of Microsecond m || mark_of Millisecond m) else not (mark_of Microsecond m && mark_of Millisecond m)

abbrev pub shows_part : List Bool → Bool
shows_part m = mark_of Nanosecond m || (mark_of Microsecond m || mark_of Millisecond m)

abbrev pub is_clock : List Bool → Bool
is_clock m =
    shows_hour_once m && ((mark_of Minute m || not (mark_of Second m)) && ((mark_of Second m || not (shows_part m)) && (shows_one_part m && not (shows_rare_part m))))
