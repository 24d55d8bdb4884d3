-- The sentence of a component that a string of a format shows and that is out of range.
use Rattle.std.specs.Prelude.{◌≡◌, ◌⊎◌, ℕ, pos, List, Option, Some, None, if◌then◌else◌}
use Rattle.cal_errors.specs.Components.{always, bounds_of, sentence_in}
use Rattle.cal_errors.specs.declared.components.Components.{Components}
use Rattle.cal_format.specs.declared.item.Component.{Component as Shown}
use Rattle.cal_format.specs.declared.item.Component.TheVariants as shown
use Rattle.cal_format.specs.declared.item.Item.{Item}
use Rattle.cal_format.specs.declared.lenient.LenientFormat.{LenientFormat}
use Rattle.cal_format.specs.Lenient.{items_of}
use Rattle.cal_format.specs.Numbers.{HasKnownNumbers, HasOwnNumbers}
use Rattle.cal_format.specs.Ranges.{either}
use Rattle.cal_format.specs.Reading.{any_shows}
use Rattle.cal_format.specs.Scanning.{signed_seconds}
use Rattle.cal_format.specs.Values.{number_in, year_in}
use Rattle.cal_time.specs.declared.error.Component.{Component}
use Rattle.cal_time.specs.declared.error.Component.TheVariants.{Month, Day, Ordinal, Week, Weekday, Hour, Minute, Second, OffsetHour, OffsetMinute, OffsetSecond, Timestamp}

-- The components of the numbers `at` in a year. The numbers of an offset and a Unix time have its sign.
abbrev pub numbered : ℕ → (Shown → ℕ) → Components
numbered year at = record {
  year = pos year;
  month = pos (at shown.Month);
  day = pos (at shown.Day);
  ordinal = pos (at shown.Ordinal);
  week = pos (at shown.IsoWeek);
  julian_day = pos 0;
  hour = pos (at shown.Hour);
  minute = pos (at shown.Minute);
  second = pos (at shown.Second);
  millisecond = pos 0;
  microsecond = pos 0;
  nanosecond = pos 0;
  offset_hour = signed_seconds (at shown.OffsetSign) (at shown.OffsetHour);
  offset_minute = signed_seconds (at shown.OffsetSign) (at shown.OffsetMinute);
  offset_second = signed_seconds (at shown.OffsetSign) (at shown.OffsetSecond);
  seconds = pos 0;
  timestamp = signed_seconds (at shown.TimestampSign) (at shown.Timestamp);
}

-- ---- the number of one item
-- By the range of the component k, if the items show c.
abbrev pub part_text : Component → Shown → List Item → Components → Option (List ℕ)
part_text k c items v = if any_shows c items then sentence_in k (bounds_of k v) else None

-- By the range of the item.
abbrev pub item_text : Component → Shown → ℕ → ℕ → List Item → (Shown → ℕ) → Option (List ℕ)
item_text k c low high items at = if any_shows c items then sentence_in k (Some (always (pos (at c)) (pos low) (pos high))) else None

-- ---- the items of a component
-- An hour has up to 12 or 24 hours, and a weekday or a week is counted from one of several days.
abbrev pub hour_text : List Item → (Shown → ℕ) → Components → Option (List ℕ)
hour_text items at v = either (part_text Hour shown.Hour items v) (item_text Hour shown.Hour12 1 12 items at)

abbrev pub week_text : List Item → (Shown → ℕ) → Option (List ℕ)
week_text items at =
    either (part_text Week shown.IsoWeek items (numbered (at shown.IsoYear) at))
    (either (item_text Week shown.SundayWeek 0 53 items at) (item_text Week shown.MondayWeek 0 53 items at))

abbrev pub weekday_text : List Item → (Shown → ℕ) → Option (List ℕ)
weekday_text items at =
    either (item_text Weekday shown.Weekday 1 7 items at)
    (either (item_text Weekday shown.SundayWeekday 1 7 items at)
    (either (item_text Weekday shown.DaysFromMonday 0 6 items at) (item_text Weekday shown.DaysFromSunday 0 6 items at)))

abbrev pub sentence_with : Component → List Item → (Shown → ℕ) → Components → Option (List ℕ)
sentence_with Month items at v = part_text Month shown.Month items v
sentence_with Day items at v = part_text Day shown.Day items v
sentence_with Ordinal items at v = part_text Ordinal shown.Ordinal items v
sentence_with Week items at v = week_text items at
sentence_with Weekday items at v = weekday_text items at
sentence_with Hour items at v = hour_text items at v
sentence_with Minute items at v = part_text Minute shown.Minute items v
sentence_with Second items at v = part_text Second shown.Second items v
sentence_with OffsetHour items at v = part_text OffsetHour shown.OffsetHour items v
sentence_with OffsetMinute items at v = part_text OffsetMinute shown.OffsetMinute items v
sentence_with OffsetSecond items at v = part_text OffsetSecond shown.OffsetSecond items v
sentence_with Timestamp items at v = part_text Timestamp shown.Timestamp items v
sentence_with _ items at v = None

abbrev pub sentence_of : Component → List Item → (Shown → ℕ) → Option (List ℕ)
sentence_of k items at = sentence_with k items at (numbered (year_in items at) at)

-- ---- strings
-- The sentence of a component that the string shows, or nothing if it hasn't the form of the format.
abbrev pub IsFormatSentence : Component → List Item → List ℕ → Option (List ℕ) → Type 0
IsFormatSentence k items text r =
    ((numbers : List ℕ) × HasOwnNumbers items numbers text × (r ≡ sentence_of k items (number_in items numbers)))
    ⊎ (((numbers : List ℕ) → ¬ HasOwnNumbers items numbers text) × (r ≡ None))

-- The same if the string is read leniently.
abbrev pub IsLenientSentence : Component → LenientFormat → List ℕ → Option (List ℕ) → Type 0
IsLenientSentence k f text r =
    ((numbers : List ℕ) × HasKnownNumbers f numbers text × (r ≡ sentence_of k (items_of f) (number_in (items_of f) numbers)))
    ⊎ (((numbers : List ℕ) → ¬ HasKnownNumbers f numbers text) × (r ≡ None))
