-- The components of `time`'s format descriptions, by its documentation. Each row has a name, the
-- modifiers that may come with these items, and the items. The first row that has all modifiers of a
-- component decides, so the defaults come first.
use Rattle.std.specs.Prelude.{ℕ, List, [], ◌∷◌, ◌++◌, codes}
use Rattle.cal_format.specs.declared.item.Component.{Component}
use Rattle.cal_format.specs.declared.item.Component.TheVariants.{Year, Century, YearOfCentury, IsoYear, Month, Day, Ordinal, IsoWeek, Weekday, DaysFromMonday, DaysFromSunday, SundayWeekday, SundayWeek, MondayWeek, Hour, Hour12, Minute, Second, Subsecond1, Subsecond2, Millisecond, Subsecond4, Subsecond5, Microsecond, Subsecond7, Subsecond8, Nanosecond, OffsetHour, OffsetMinute, OffsetSecond, Timestamp}
use Rattle.cal_format.specs.declared.item.Item.{Item}
use Rattle.cal_format.specs.declared.item.Item.TheVariants as item
use Rattle.cal_format.specs.declared.item.Name.{Name}
use Rattle.cal_format.specs.declared.item.Name.TheVariants as name
use Rattle.cal_format.specs.declared.item.Padding.{Padding}
use Rattle.cal_format.specs.declared.item.Padding.TheVariants as padding
use Rattle.cal_format.specs.Directive.{zeros, bare}

-- A name, modifiers and the items of a component.
abbrev pub Row : Type 0
Row = List ℕ × List (List ℕ) × List Item

-- One row for each padding: zeros, none and spaces.
abbrev pub rows_by_padding : List ℕ → List (List ℕ) → (Padding → Item) → List Row
rows_by_padding name words item_with =
    (name, codes "padding:zero" ∷ words, item_with padding.Zero ∷ []) ∷
    (name, codes "padding:none" ∷ words, item_with padding.None ∷ []) ∷
    (name, codes "padding:space" ∷ words, item_with padding.Space ∷ []) ∷ []

-- A number with zeros before it, without padding, and with spaces before it.
abbrev pub padded_rows : List ℕ → List (List ℕ) → Component → List Row
padded_rows name words c = rows_by_padding name words (item.Number c)

-- The same with a sign.
abbrev pub signed_rows : List ℕ → List (List ℕ) → Component → List Row
signed_rows name words c = rows_by_padding name words (item.Signed c)

-- One item.
abbrev pub row : List ℕ → List (List ℕ) → Item → Row
row name words i = (name, words, i ∷ [])

-- An English name.
abbrev pub name_row : List ℕ → List (List ℕ) → Name → Row
name_row name words n = row name words (item.Name n)

-- ---- years
-- A sign is mandatory, or stands only before other years than 0 to 9999.
abbrev pub year_words : List ℕ → List ℕ → List ℕ → List (List ℕ)
year_words repr base sign = repr ∷ base ∷ sign ∷ []

abbrev pub unsigned_years : List Row
unsigned_years =
    padded_rows (codes "year") (year_words (codes "repr:full") (codes "base:calendar") (codes "sign:automatic")) Year ++
    padded_rows (codes "year") (year_words (codes "repr:full") (codes "base:iso_week") (codes "sign:automatic")) IsoYear ++
    padded_rows (codes "year") (year_words (codes "repr:century") (codes "base:calendar") (codes "sign:automatic")) Century

abbrev pub signed_years : List Row
signed_years =
    signed_rows (codes "year") (year_words (codes "repr:full") (codes "base:calendar") (codes "sign:mandatory")) Year ++
    signed_rows (codes "year") (year_words (codes "repr:full") (codes "base:iso_week") (codes "sign:mandatory")) IsoYear ++
    signed_rows (codes "year") (year_words (codes "repr:century") (codes "base:calendar") (codes "sign:mandatory")) Century

-- The last two digits have no sign.
abbrev pub years : List Row
years = unsigned_years ++ signed_years ++ padded_rows (codes "year") (codes "repr:last_two" ∷ codes "base:calendar" ∷ codes "sign:automatic" ∷ codes "sign:mandatory" ∷ []) YearOfCentury

-- ---- the other components of dates
-- A name has no padding.
abbrev pub month_words : List ℕ → List (List ℕ)
month_words repr = repr ∷ codes "padding:zero" ∷ codes "padding:none" ∷ codes "padding:space" ∷ codes "case_sensitive:true" ∷ []

abbrev pub month_rows : List Row
month_rows =
    padded_rows (codes "month") (codes "repr:numerical" ∷ codes "case_sensitive:true" ∷ []) Month ++ name_row (codes "month") (month_words (codes "repr:long")) name.Month ∷
    name_row (codes "month") (month_words (codes "repr:short")) name.ShortMonth ∷ []

-- The day of the month and of the year. Weeks are those of ISO 8601, or are counted from the first
-- Sunday or the first Monday of the year.
abbrev pub day_rows : List Row
day_rows =
    padded_rows (codes "day") [] Day ++ padded_rows (codes "ordinal") [] Ordinal ++ padded_rows (codes "week_number") (codes "repr:iso" ∷ []) IsoWeek ++
    padded_rows (codes "week_number") (codes "repr:sunday" ∷ []) SundayWeek ++ padded_rows (codes "week_number") (codes "repr:monday" ∷ []) MondayWeek

-- Weekdays are numbered from Monday or from Sunday, from 1 on or from 0.
abbrev pub weekday_name : List ℕ → Name → Row
weekday_name repr n = name_row (codes "weekday") (repr ∷ codes "one_indexed:true" ∷ codes "one_indexed:false" ∷ codes "case_sensitive:true" ∷ []) n

abbrev pub weekday_number : List ℕ → List ℕ → Component → Row
weekday_number repr from c = row (codes "weekday") (repr ∷ from ∷ codes "case_sensitive:true" ∷ []) (zeros c)

abbrev pub weekday_rows : List Row
weekday_rows =
    weekday_name (codes "repr:long") name.Weekday ∷
    weekday_name (codes "repr:short") name.ShortWeekday ∷
    weekday_number (codes "repr:monday") (codes "one_indexed:true") Weekday ∷
    weekday_number (codes "repr:monday") (codes "one_indexed:false") DaysFromMonday ∷
    weekday_number (codes "repr:sunday") (codes "one_indexed:true") SundayWeekday ∷
    weekday_number (codes "repr:sunday") (codes "one_indexed:false") DaysFromSunday ∷ []

abbrev pub date_components : List Row
date_components = month_rows ++ day_rows ++ weekday_rows

-- ---- times of day, offsets and Unix times
abbrev pub clock_rows : List Row
clock_rows =
    padded_rows (codes "hour") (codes "repr:24" ∷ []) Hour ++ padded_rows (codes "hour") (codes "repr:12" ∷ []) Hour12 ++ name_row (codes "period") (codes "case:upper" ∷ codes "case_sensitive:true" ∷ []) name.Period ∷
    name_row (codes "period") (codes "case:lower" ∷ codes "case_sensitive:true" ∷ []) name.LowerPeriod ∷
    padded_rows (codes "minute") [] Minute ++ padded_rows (codes "second") [] Second

-- The digits of a fraction of a second: as many as it has, or a fixed number.
abbrev pub subsecond_rows : List Row
subsecond_rows =
    row (codes "subsecond") (codes "digits:1+" ∷ []) item.Decimals ∷
    row (codes "subsecond") (codes "digits:1" ∷ []) (zeros Subsecond1) ∷
    row (codes "subsecond") (codes "digits:2" ∷ []) (zeros Subsecond2) ∷
    row (codes "subsecond") (codes "digits:3" ∷ []) (zeros Millisecond) ∷
    row (codes "subsecond") (codes "digits:4" ∷ []) (zeros Subsecond4) ∷
    row (codes "subsecond") (codes "digits:5" ∷ []) (zeros Subsecond5) ∷
    row (codes "subsecond") (codes "digits:6" ∷ []) (zeros Microsecond) ∷
    row (codes "subsecond") (codes "digits:7" ∷ []) (zeros Subsecond7) ∷
    row (codes "subsecond") (codes "digits:8" ∷ []) (zeros Subsecond8) ∷
    row (codes "subsecond") (codes "digits:9" ∷ []) (zeros Nanosecond) ∷ []

-- A sign and the hours of an offset, for each padding.
abbrev pub offset_hours : List ℕ → Item → List Row
offset_hours word sign =
    (codes "offset_hour", word ∷ codes "padding:zero" ∷ [], sign ∷ zeros OffsetHour ∷ []) ∷
    (codes "offset_hour", word ∷ codes "padding:none" ∷ [], sign ∷ bare OffsetHour ∷ []) ∷
    (codes "offset_hour", word ∷ codes "padding:space" ∷ [], sign ∷ item.Number OffsetHour padding.Space ∷ []) ∷ []

abbrev pub offset_rows : List Row
offset_rows =
    offset_hours (codes "sign:automatic") item.OffsetMinus ++ offset_hours (codes "sign:mandatory") item.OffsetSign ++ padded_rows (codes "offset_minute") [] OffsetMinute ++ padded_rows (codes "offset_second") [] OffsetSecond

abbrev pub timestamp_row : List ℕ → Item → Row
timestamp_row word sign = (codes "unix_timestamp", codes "precision:second" ∷ word ∷ [], sign ∷ bare Timestamp ∷ [])

abbrev pub timestamp_rows : List Row
timestamp_rows = timestamp_row (codes "sign:automatic") item.TimestampMinus ∷ timestamp_row (codes "sign:mandatory") item.TimestampSign ∷ []

abbrev pub time_components : List Row
time_components = clock_rows ++ subsecond_rows ++ offset_rows ++ timestamp_rows
