-- The items that a text spells, by a table of spellings.
use Rattle.std.specs.Prelude.{ℕ, ◌+◌, ◌==◌, ◌&&◌, Bool, true, false, List, [], ◌∷◌, ◌++◌, length, codes, Option, Some, None}
use Rattle.std.specs.List.{find}
use Rattle.cal_format.specs.declared.item.Component.{Component}
use Rattle.cal_format.specs.declared.item.Component.TheVariants.{Year, Century, YearOfCentury, IsoYear, Month, Day, Ordinal, IsoWeek, Weekday, DaysFromSunday, SundayWeek, MondayWeek, Hour, Hour12, Minute, Second, Millisecond, Microsecond, Nanosecond, OffsetHour, OffsetMinute, OffsetSecond, Timestamp}
use Rattle.cal_format.specs.declared.item.Item.{Item}
use Rattle.cal_format.specs.declared.item.Item.TheVariants as item
use Rattle.cal_format.specs.declared.item.Name.TheVariants as name
use Rattle.cal_format.specs.declared.item.Padding.TheVariants as padding

-- Items, and the number of bytes that spell them. Without items nothing is spelled.
pub record Front : Type 0 where
  pub items : List Item
  pub used : ℕ

abbrev pub front_with : List Item → ℕ → Front
front_with items used = record { items = items; used = used }

-- The second text begins with the first one.
unfoldable pub begins_with : List ℕ → List ℕ → Bool
begins_with [] text = true
begins_with (p ∷ ps) [] = false
begins_with (p ∷ ps) (x ∷ xs) = (x == p) && begins_with ps xs

-- The items of the first row whose spelling begins the text, if there is one. One byte comes before
-- the spelling.
abbrev pub front_of : Option (List ℕ × List Item) → Front
front_of None = front_with [] 1
front_of (Some row) = front_with row.1 (length row.0 + 1)

abbrev pub front_in : List (List ℕ × List Item) → List ℕ → Front
front_in rows text = front_of (find (λ row. begins_with row.0 text) rows)

-- ---- the directives of `strftime`
-- A number with zeros before it, and a number without padding.
abbrev pub zeros : Component → Item
zeros c = item.Number c padding.Zero

abbrev pub bare : Component → Item
bare c = item.Number c padding.None

abbrev pub byte : ℕ → Item
byte b = item.Literal b

-- The items of C: `%F` is `%Y-%m-%d`, `%T` is `%H:%M:%S`, `%R` is `%H:%M`, and `%D` is `%m/%d/%y`.
abbrev pub year_month_day : List Item
year_month_day = zeros Year ∷ byte 45 ∷ zeros Month ∷ byte 45 ∷ zeros Day ∷ []

abbrev pub hour_minute : List Item
hour_minute = zeros Hour ∷ byte 58 ∷ zeros Minute ∷ []

abbrev pub hour_minute_second : List Item
hour_minute_second = hour_minute ++ byte 58 ∷ zeros Second ∷ []

abbrev pub month_day_year : List Item
month_day_year = zeros Month ∷ byte 47 ∷ zeros Day ∷ byte 47 ∷ zeros YearOfCentury ∷ []

-- An offset as +hhmm, +hh:mm or +hh:mm:ss.
abbrev pub offset : List Item
offset = item.OffsetSign ∷ zeros OffsetHour ∷ zeros OffsetMinute ∷ []

abbrev pub offset_with_colon : List Item
offset_with_colon = item.OffsetSign ∷ zeros OffsetHour ∷ byte 58 ∷ zeros OffsetMinute ∷ []

abbrev pub offset_with_seconds : List Item
offset_with_seconds = offset_with_colon ++ byte 58 ∷ zeros OffsetSecond ∷ []

-- The directives and what they show. Those of one letter, except `f` and `N`, have their meaning in
-- C and POSIX, where `%U` counts weeks from the first Sunday of the year, `%W` from its first
-- Monday, `%u` weekdays from 1, Monday, and `%w` from 0, Sunday. `%-d`, `%N`, `%3N`, `%:z` and the
-- like are directives of GNU `date`, and `%f` of Python. `%.f` is a point and a fraction.
abbrev pub directives : List (List ℕ × List Item)
directives =
    (codes "-m", bare Month ∷ []) ∷
    (codes "-d", bare Day ∷ []) ∷
    (codes "-H", bare Hour ∷ []) ∷
    (codes "-I", bare Hour12 ∷ []) ∷
    (codes ".f", item.Fraction ∷ []) ∷
    (codes "3N", zeros Millisecond ∷ []) ∷
    (codes "6N", zeros Microsecond ∷ []) ∷
    (codes "9N", zeros Nanosecond ∷ []) ∷
    (codes "Y", zeros Year ∷ []) ∷
    (codes "m", zeros Month ∷ []) ∷
    (codes "d", zeros Day ∷ []) ∷
    (codes "j", zeros Ordinal ∷ []) ∷
    (codes "e", item.Number Day padding.Space ∷ []) ∷
    (codes "y", zeros YearOfCentury ∷ []) ∷
    (codes "C", zeros Century ∷ []) ∷
    (codes "H", zeros Hour ∷ []) ∷
    (codes "M", zeros Minute ∷ []) ∷
    (codes "S", zeros Second ∷ []) ∷
    (codes "I", zeros Hour12 ∷ []) ∷
    (codes "f", zeros Microsecond ∷ []) ∷
    (codes "N", zeros Nanosecond ∷ []) ∷
    (codes "B", item.Name name.Month ∷ []) ∷
    (codes "OB", item.Name name.MonthAlone ∷ []) ∷
    (codes "b", item.Name name.ShortMonth ∷ []) ∷
    (codes "h", item.Name name.ShortMonth ∷ []) ∷
    (codes "A", item.Name name.Weekday ∷ []) ∷
    (codes "a", item.Name name.ShortWeekday ∷ []) ∷
    (codes "p", item.Name name.Period ∷ []) ∷
    (codes "G", zeros IsoYear ∷ []) ∷
    (codes "V", zeros IsoWeek ∷ []) ∷
    (codes "u", zeros Weekday ∷ []) ∷
    (codes "w", zeros DaysFromSunday ∷ []) ∷
    (codes "U", zeros SundayWeek ∷ []) ∷
    (codes "W", zeros MondayWeek ∷ []) ∷
    (codes "F", year_month_day) ∷
    (codes "T", hour_minute_second) ∷
    (codes "R", hour_minute) ∷
    (codes "D", month_day_year) ∷
    (codes "z", offset) ∷
    (codes ":z", offset_with_colon) ∷
    (codes "::z", offset_with_seconds) ∷
    (codes "s", item.TimestampMinus ∷ bare Timestamp ∷ []) ∷
    (codes "Z", item.Abbreviation ∷ []) ∷
    (codes "n", byte 10 ∷ []) ∷
    (codes "t", byte 9 ∷ []) ∷
    (codes "%", byte 37 ∷ []) ∷ []
