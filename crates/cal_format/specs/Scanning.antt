-- Numbers and names of a text, read item by item.
use Rattle.std.specs.Prelude.{◌≡◌, ◌≢◌, ℕ, ◌+◌, ◌*◌, ◌/◌, ◌%◌, ◌<◌, ◌≤◌, ◌^◌, ◌++◌, ◌||◌, IsTrue, List, [], ◌∷◌, Option, Some, None, false, get_or, if◌then◌else◌, ◌==◌, ℤ, pos, neg_ℤ}
use Rattle.cal_text.specs.Shape.{Shape, unmatched_bytes}
use Rattle.cal_time.specs.Date.{IsDate, HasCalendarDate, HasOrdinalDate, weekday_at}
use Rattle.cal_time.specs.IsoWeekDate.{HasIsoWeekDate}
use Rattle.cal_time.specs.Time.{IsTime, hour_of, minute_of, second_of, nanosecond_of}
use Rattle.cal_datetime.specs.DateTime.{IsDateTime, time_at}
use Rattle.cal_format.specs.declared.fields.Fields.{Fields}
use Rattle.cal_format.specs.declared.item.Item.{Item}
use Rattle.cal_format.specs.declared.item.Item.TheVariants as item
use Rattle.cal_format.specs.declared.item.Component.{Component}
use Rattle.cal_format.specs.declared.item.Component.TheVariants.{Year, IsoYear, Month, Day, Ordinal, IsoWeek, Weekday, Hour, Hour12, Minute, Second, Period, Millisecond, Microsecond, Nanosecond}
use Rattle.cal_format.specs.declared.moment.Moment.{Moment}
use Rattle.cal_format.specs.Form.{ItemShape, numbered_item, numbered_text, IsNumber, AreNumbers}
use Rattle.cal_format.specs.Moment.{number, width_of, moment_of_date, moment_of_time, moment_of_date_time}
use Rattle.cal_format.specs.Ranges.{item_error, first_range_error}
use Rattle.cal_format.specs.Text.{sign, text_of}
use Rattle.cal_format.specs.Reading.{DeterminesDate, DeterminesTime, DeterminesDateTime, holds_time, index, mark_of, item_component, shows, any_shows}
use Rattle.cal_format.specs.Shown.{AreShown, is_calendar, is_ordinal, is_week, is_clock}

-- The number of a component in the fields of a text.
abbrev pub number_at : Component → Fields → ℕ
number_at c f = get_or f.numbers (index c) 0

-- The number of each item in the fields, which is 0 for an item that shows no component.
abbrev pub field_of : Fields → Option Component → ℕ
field_of f None = 0
field_of f (Some c) = number_at c f

abbrev pub fields_of : List Item → Fields → List ℕ
fields_of [] f = []
fields_of (i ∷ items) f = field_of f (item_component i) ∷ fields_of items f

-- A text begins with an item with a number in its range, and then comes the rest: the text has the
-- form of the item and then of others if and only if the rest has the form of the others. The
-- number is set for the component of the item, which had no mark.
pub record HasField (i : Item) (old new : Fields) (text rest : List ℕ) : Type 0 where
  pub number : ℕ
  pub fit : IsNumber i number
  pub in_range : item_error i number ≡ None
  pub text_is : text ≡ numbered_item i number ++ rest
  pub form : (f : Shape) → unmatched_bytes (ItemShape i f) text ≡ unmatched_bytes f rest
  pub set : (c : Component) → number_at c new ≡ (if shows c i then number else number_at c old)
  pub fresh : (c : Component) → IsTrue (shows c i) → mark_of c old.shown.marks ≡ false
  pub marks : (c : Component) → mark_of c new.shown.marks ≡ (mark_of c old.shown.marks || shows c i)
  pub shown : (before : List Item) → AreShown before old.shown → AreShown (before ++ i ∷ []) new.shown

-- The component of the item has a mark; or the text doesn't begin with the form of the item; or it
-- does, and the number of the item is out of range.
pub data IsNoField (i : Item) (f : Fields) (text : List ℕ) : Type 0 where
  marked : (c : Component) → IsTrue (shows c i) → IsTrue (mark_of c f.shown.marks) → IsNoField i f text
  mismatch : ((s : Shape) → unmatched_bytes (ItemShape i s) text ≢ 0) → IsNoField i f text
  out_of_range : (number : ℕ) (rest : List ℕ) → text ≡ numbered_item i number ++ rest → ((s : Shape) → unmatched_bytes (ItemShape i s) text ≡ unmatched_bytes s rest) → item_error i number ≢ None
      → IsNoField i f text

-- The same of items. The numbers of marked and of other components are kept.
pub record HasFields (items : List Item) (old new : Fields) (text rest : List ℕ) : Type 0 where
  pub fit : AreNumbers items (fields_of items new)
  pub in_range : first_range_error items (fields_of items new) ≡ None
  pub text_is : text ≡ numbered_text items (fields_of items new) ++ rest
  pub kept : (c : Component) → any_shows c items ≡ false → number_at c new ≡ number_at c old
  pub marked : (c : Component) → IsTrue (mark_of c old.shown.marks) → number_at c new ≡ number_at c old
  pub shown : (before : List Item) → AreShown before old.shown → AreShown (before ++ items) new.shown

-- A day has the numbers of the calendar date, the ordinal date or the week date in the fields.
pub record HasDateNumbers (f : Fields) (n : ℕ) : Type 0 where
  pub calendar : IsTrue (is_calendar f.shown.marks) → HasCalendarDate (pos (number_at Year f)) (number_at Month f) (number_at Day f) n
  pub ordinal : IsTrue (is_ordinal f.shown.marks) → HasOrdinalDate (pos (number_at Year f)) (number_at Ordinal f) n
  pub week : IsTrue (is_week f.shown.marks) → HasIsoWeekDate (pos (number_at IsoYear f)) (number_at IsoWeek f) ((number_at Weekday f + 6) % 7) n

-- The fields have the numbers of one of these dates, of a year from 0 to 9999, and of nothing else
-- of a date but the weekday. This day has the numbers of the date, and no other day has.
pub record IsNumberedDate (f : Fields) (n : ℕ) : Type 0 where
  pub date : IsDate n
  pub shape : IsTrue (is_calendar f.shown.marks || (is_ordinal f.shown.marks || is_week f.shown.marks))
  pub year : number_at Year f ≤ 9_999
  pub iso_year : number_at IsoYear f ≤ 9_999
  pub has : HasDateNumbers f n
  pub only : (w : ℕ) → IsDate w → HasDateNumbers f w → w ≡ n

-- This day also has the weekday of the fields.
pub record IsDateOfFields (f : Fields) (n : ℕ) : Type 0 where
  pub numbered : IsNumberedDate f n
  pub weekday : IsTrue (mark_of Weekday f.shown.marks) → number_at Weekday f ≡ weekday_at n + 1

-- An hour has the number in the fields, or the number with its half of the day.
pub record HasHour (f : Fields) (h : ℕ) : Type 0 where
  pub hour : IsTrue (mark_of Hour f.shown.marks) → number_at Hour f ≡ h
  pub hour12 : mark_of Hour f.shown.marks ≡ false → (number_at Hour12 f ≡ (h + 11) % 12 + 1) × (number_at Period f ≡ h / 12)

-- The nanoseconds of a second: nanoseconds, microseconds or milliseconds.
abbrev pub nanosecond_at : Fields → ℕ
nanosecond_at f =
    if mark_of Nanosecond f.shown.marks then number_at Nanosecond f
    else (if mark_of Microsecond f.shown.marks then number_at Microsecond f * 1_000
    else (if mark_of Millisecond f.shown.marks then number_at Millisecond f * 1_000_000
    else 0))

-- The fields have the numbers of a time of day, one number for each of its parts. This is their
-- time of day.
pub record IsTimeOfFields (f : Fields) (t : ℕ) : Type 0 where
  pub time : IsTime t
  pub shape : IsTrue (is_clock f.shown.marks)
  pub hour : HasHour f (hour_of t)
  pub minute : number_at Minute f ≡ minute_of t
  pub second : number_at Second f ≡ second_of t
  pub nanosecond : nanosecond_at f ≡ nanosecond_of t

-- The seconds with this sign, which is 1 for minus.
abbrev pub signed_seconds : ℕ → ℕ → ℤ
signed_seconds s m = if s == 1 then neg_ℤ (pos m) else pos m

-- An item holds a moment if its number has at most the digits of the item, and no sign.
abbrev pub IsHeld : Moment → Item → Type 0
IsHeld v (item.Number c p) = (number c v < 10 ^ width_of p c) × (sign c v ≡ [])
IsHeld v (item.Signed c p) = (number c v < 10 ^ width_of p c) × (sign c v ≡ [])
IsHeld v _ = Unit {0}

abbrev pub AreHeld : Moment → List Item → Type 0
AreHeld v [] = Unit {0}
AreHeld v (i ∷ items) = IsHeld v i × AreHeld v items

-- The items determine a date, and the text is the text of this date and of no other.
pub record IsOneDate (items : List Item) (n : ℕ) (text : List ℕ) : Type 0 where
  pub determines : DeterminesDate items
  pub date : IsDate n
  pub held : AreHeld (moment_of_date n) items
  pub text_is : text ≡ text_of items (moment_of_date n)
  pub every : (w : ℕ) → IsDate w → AreHeld (moment_of_date w) items → text ≡ text_of items (moment_of_date w) → w ≡ n

-- The same of a time of day, and of a date-time.
pub record IsOneTime (items : List Item) (t : ℕ) (text : List ℕ) : Type 0 where
  pub determines : DeterminesTime items
  pub time : IsTime t
  pub holds : IsTrue (holds_time items t)
  pub text_is : text ≡ text_of items (moment_of_time t)
  pub every : (u : ℕ) → IsTime u → IsTrue (holds_time items u) → text ≡ text_of items (moment_of_time u) → u ≡ t

pub record IsOnePair (items : List Item) (z : ℤ) (text : List ℕ) : Type 0 where
  pub determines : DeterminesDateTime items
  pub range : IsDateTime z
  pub held : AreHeld (moment_of_date_time z) items
  pub holds : IsTrue (holds_time items (time_at z))
  pub text_is : text ≡ text_of items (moment_of_date_time z)
  pub every : (y : ℤ) → IsDateTime y → AreHeld (moment_of_date_time y) items → IsTrue (holds_time items (time_at y)) → text ≡ text_of items (moment_of_date_time y) → y ≡ z
