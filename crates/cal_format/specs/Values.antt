-- The value that the numbers of a text determine.
use Rattle.std.specs.Prelude.{◌≡◌, ◌⊎◌, ℕ, ◌+◌, ◌*◌, ◌%◌, ◌==◌, ◌&&◌, List, [], ◌∷◌, Bool, true, false, not, Option, Some, None, IsTrue, ℤ, pos, if◌then◌else◌}
use Rattle.cal_units.specs.ComponentError.{conditional, unconditional}
use Rattle.cal_units.specs.declared.error.Component.{Component as Named}
use Rattle.cal_units.specs.declared.error.Component.TheVariants as error
use Rattle.cal_units.specs.declared.error.ComponentRange.{ComponentRange}
use Rattle.cal_time.specs.Date.{HasCalendarDate, HasOrdinalDate}
use Rattle.cal_time.specs.IsoWeekDate.{HasIsoWeekDate}
use Rattle.cal_time.specs.Time.{nanosecond_of, time_of}
use Rattle.cal_format.specs.declared.item.Item.{Item}
use Rattle.cal_format.specs.declared.item.Component.{Component}
use Rattle.cal_format.specs.declared.item.Component.TheVariants.{Year, Century, YearOfCentury, IsoYear, Month, Day, Ordinal, IsoWeek, Weekday, DaysFromMonday, DaysFromSunday, SundayWeekday, Hour, Hour12, Minute, Second, Period, OffsetHour, OffsetMinute, OffsetSecond, OffsetSign, Timestamp, TimestampSign}
use Rattle.cal_format.specs.declared.moment.Moment.{Moment}
use Rattle.cal_format.specs.Moment.{IsMoment, timestamp_of, number}
use Rattle.cal_format.specs.Ranges.{named, either}
use Rattle.cal_format.specs.Reading.{shows, any_shows, item_component, shows_calendar_date, shows_ordinal_date, shows_iso_week_date, shows_date, shows_time, shows_offset, shows_timestamp, holds_time, holds_offset, subseconds, unit_of}
use Rattle.cal_format.specs.Scanning.{AreHeld, signed_seconds}
use Rattle.cal_format.specs.Text.{sign, text_of}

-- The number of the first item that shows a component, or 0.
abbrev pub number_in : List Item → List ℕ → Component → ℕ
number_in [] numbers c = 0
number_in (i ∷ items) [] c = 0
number_in (i ∷ items) (n ∷ numbers) c = if shows c i then n else number_in items numbers c

-- The year, the weekday, the time of day, the offset and the Unix time of the numbers `at` of the
-- components. Weekdays are counted from 0, Monday.
abbrev pub year_in : List Item → (Component → ℕ) → ℕ
year_in items at = if any_shows Year items then at Year else at Century * 100 + at YearOfCentury

abbrev pub weekday_in : List Item → (Component → ℕ) → ℕ
weekday_in items at =
    if any_shows Weekday items then (at Weekday + 6) % 7
    else (if any_shows DaysFromSunday items then (at DaysFromSunday + 6) % 7
    else (if any_shows SundayWeekday items then (at SundayWeekday + 5) % 7
    else at DaysFromMonday))

abbrev pub hour_in : List Item → (Component → ℕ) → ℕ
hour_in items at = if any_shows Hour items then at Hour else at Hour12 % 12 + at Period * 12

-- The nanoseconds of the first of these parts of a second that is shown.
abbrev pub nanoseconds_of : List Component → List Item → (Component → ℕ) → ℕ
nanoseconds_of [] items at = 0
nanoseconds_of (c ∷ components) items at = if any_shows c items then at c * unit_of c else nanoseconds_of components items at

abbrev pub nanosecond_in : List Item → (Component → ℕ) → ℕ
nanosecond_in items at = nanoseconds_of subseconds items at

abbrev pub time_in : List Item → (Component → ℕ) → ℕ
time_in items at = time_of (hour_in items at) (at Minute) (at Second) (nanosecond_in items at)

abbrev pub offset_in : (Component → ℕ) → ℤ
offset_in at = signed_seconds (at OffsetSign) (at OffsetHour * 3_600 + at OffsetMinute * 60 + at OffsetSecond)

abbrev pub timestamp_in : (Component → ℕ) → ℤ
timestamp_in at = signed_seconds (at TimestampSign) (at Timestamp)

-- A day has the numbers of a calendar date, or else of an ordinal date, or else of an ISO week
-- date. Without a date it is day 0.
pub record IsDateOf (items : List Item) (at : Component → ℕ) (n : ℕ) : Type 0 where
  pub calendar : IsTrue (shows_calendar_date items) → HasCalendarDate (pos (year_in items at)) (at Month) (at Day) n
  pub ordinal : IsTrue (not (shows_calendar_date items)) → IsTrue (shows_ordinal_date items) → HasOrdinalDate (pos (year_in items at)) (at Ordinal) n
  pub week : IsTrue (not (shows_calendar_date items)) → IsTrue (not (shows_ordinal_date items)) → IsTrue (shows_iso_week_date items) → HasIsoWeekDate (pos (at IsoYear)) (at IsoWeek) (weekday_in items at) n
  pub none : IsTrue (not (shows_date items)) → n ≡ 0

-- The error of numbers that no moment has.
abbrev pub value_error : List Item → ComponentRange
value_error items =
    if shows_timestamp items then unconditional error.Timestamp
    else (if shows_calendar_date items then conditional error.Day
    else (if shows_ordinal_date items then conditional error.Ordinal
    else conditional error.Week))

-- The moment of the numbers. What they don't determine is 0. A Unix time determines the date and
-- the time of day at the offset.
pub record IsMomentOf (items : List Item) (at : Component → ℕ) (v : Moment) : Type 0 where
  pub in_range : IsMoment v
  pub timestamp : IsTrue (shows_timestamp items) → (timestamp_of v ≡ timestamp_in at) × (nanosecond_of v.time ≡ nanosecond_in items at)
  pub date : IsTrue (not (shows_timestamp items)) → IsDateOf items at v.date
  pub time : IsTrue (not (shows_timestamp items)) → v.time ≡ (if shows_time items then time_in items at else 0)
  pub offset : v.offset ≡ (if shows_offset items then offset_in at else pos 0)

-- The list has no elements.
abbrev pub is_empty : List ℕ → Bool
is_empty [] = true
is_empty (x ∷ xs) = false

-- The name of a component in an error, unless its numbers are the same.
abbrev pub differing : Component → Bool → Option Named
differing c same = if same then None else Some (named c)

-- The name of a component, or of an item's component, if this isn't its number of the moment, or if
-- the moment has a sign before it.
abbrev pub contradiction : Option Component → ℕ → Moment → Option Named
contradiction None n v = None
contradiction (Some c) n v = differing c ((number c v == n) && is_empty (sign c v))

abbrev pub item_contradiction : Item → ℕ → Moment → Option Named
item_contradiction i n v = contradiction (item_component i) n v

-- The component of the first item whose number isn't the number of the moment.
abbrev pub first_contradiction : List Item → List ℕ → Moment → Option Named
first_contradiction [] numbers v = None
first_contradiction (i ∷ items) [] v = None
first_contradiction (i ∷ items) (n ∷ numbers) v = either (item_contradiction i n v) (first_contradiction items numbers v)

-- The items hold a moment: each number has at most the digits of its item and no sign, and what the
-- items don't determine is 0.
pub record Holds (items : List Item) (v : Moment) : Type 0 where
  pub in_range : IsMoment v
  pub numbers : AreHeld v items
  pub date : IsTrue (not (shows_timestamp items)) → IsTrue (shows_date items) ⊎ (v.date ≡ 0)
  pub time : IsTrue (not (shows_timestamp items)) → IsTrue (shows_time items) ⊎ (v.time ≡ 0)
  pub parts : IsTrue (holds_time items v.time)
  pub offset_parts : IsTrue (holds_offset items v.offset)

-- The items print the moment as the text, and each number has at most the digits of its item and no
-- sign. The parts of the time of day and of the offset that the items don't determine are 0.
pub record IsPrinted (items : List Item) (v : Moment) (text : List ℕ) : Type 0 where
  pub in_range : IsMoment v
  pub numbers : AreHeld v items
  pub parts : IsTrue (holds_time items v.time)
  pub offset_parts : IsTrue (holds_offset items v.offset)
  pub text_is : text ≡ text_of items v
