-- The numbers that items show of a moment that they hold determine it.
use Rattle.std.proofs.Common.{◌≡◌, ◌⊎◌, ℕ, ◌+◌, ◌*◌, ◌/◌, ◌%◌, List, [], ◌∷◌, refl, sym, ap, ◌∙◌, arith, inl, inr}
use Rattle.std.specs.Prelude.{Bool, true, false, ◌==◌, ◌||◌, ◌&&◌, not, IsTrue, if◌then◌else◌, pos, unsigned_abs}
use Rattle.cal_time.specs.Date.{year_at, month_at, day_of_month_at, weekday_at, HasCalendarDate}
use Rattle.cal_time.specs.DateText.{sign_text}
use Rattle.cal_time.specs.IsoWeekDate.{iso_year_at}
use Rattle.cal_time.specs.Laws.{weekday_at-is}
use Rattle.cal_time.specs.Time.{IsTime, hour_of, minute_of, second_of, nanosecond_of, time_of}
use Rattle.cal_format.specs.declared.item.Item.{Item}
use Rattle.cal_format.specs.declared.item.Component.{Component}
use Rattle.cal_format.specs.declared.item.Component.TheVariants.{Year, Century, YearOfCentury, IsoYear, Month, Day, Ordinal, IsoWeek, Weekday, DaysFromMonday, DaysFromSunday, SundayWeekday, Hour, Hour12, Minute, Second, Period, Subsecond1, Subsecond2, Millisecond, Subsecond4, Subsecond5, Microsecond, Subsecond7, Subsecond8, Nanosecond, OffsetHour, OffsetMinute, OffsetSecond, OffsetSign, Timestamp, TimestampSign}
use Rattle.cal_format.specs.declared.moment.Moment.{Moment}
use Rattle.cal_format.specs.Moment.{number, timestamp_of}
use Rattle.cal_format.specs.Reading.{subseconds, unit_of, is_within, holds_parts_of_second, any_shows, shows_year, shows_weekday, shows_date, shows_hour, shows_time, shows_offset, shows_timestamp, holds_subsecond, holds_parts}
use Rattle.cal_format.specs.Scanning.{AreHeld}
use Rattle.cal_format.specs.Values.{Holds, IsDateOf, IsMomentOf, year_in, weekday_in, hour_in, nanoseconds_of, nanosecond_in, time_in, offset_in}
use Rattle.cal_format.proofs.Apart.{either_test, both_tests, not_test, same_test, agrees-shown, agrees-whole}
use Rattle.cal_format.proofs.Choices.{is-not}
use Rattle.cal_format.proofs.Contradictions.{AreParts, all-parts, then-holds, else-holds}
use Rattle.cal_format.proofs.Holding.{plain-shown, plain-year}
use Rattle.cal_format.proofs.Offsets.{offset-size, signed-is, offset-shown, no-offset}
use Rattle.cal_format.proofs.Times.{time-parts, time-shown}

-- The numbers `at` are the numbers of the moment, for each component that the items show. The others
-- are 0.
abbrev pub AreOf : List Item → Moment → (Component → ℕ) → Type 0
AreOf items v at = (c : Component) → at c ≡ (if any_shows c items then number c v else 0)

own : (items : List Item) (v : Moment) (at : Component → ℕ) (c : Component) → AreOf items v at → IsTrue (any_shows c items) → at c ≡ number c v
own items v at c are h = agrees-shown (any_shows c items) (at c) (number c v) h (are c)

choice : {A : Type 0} (b : Bool) (x y z : A) → (IsTrue b → x ≡ z) → (b ≡ false → y ≡ z) → (if b then x else y) ≡ z
choice true x y z f g = f refl
choice false x y z f g = g refl

either_shown : (a b c : Bool) → IsTrue (a || (b && c)) → a ≡ false → IsTrue b × IsTrue c
either_shown true b c h e = cc
either_shown false b c h e = both_tests b c h

other_shown : (a b : Bool) → IsTrue (a || b) → a ≡ false → IsTrue b
other_shown true b h e = cc
other_shown false b h e = h

not-shown : (b : Bool) (n : ℕ) → IsTrue b ⊎ (n ≡ 0) → IsTrue (not b) → n ≡ 0
not-shown b n (inl h) k = absurd (not_test b k h)
not-shown b n (inr e) k = e

-- ---- the date
year-size : (items : List Item) (v : Moment) (at : Component → ℕ) → AreOf items v at → IsTrue (shows_year items) → year_in items at ≡ number Year v
year-size items v at are h =
    choice (any_shows Year items) (at Year) (at Century * 100 + at YearOfCentury) (number Year v) (λ s. own items v at Year are s) (λ no.
    let both = either_shown (any_shows Year items) (any_shows Century items) (any_shows YearOfCentury items) h no in
    omega (arith, own items v at Century are both.0, own items v at YearOfCentury are both.1))

year-plain : (items : List Item) (v : Moment) → AreHeld v items → IsTrue (shows_year items) → sign_text (year_at v.date) ≡ []
year-plain items v held h = elim (either_test (any_shows Year items) (any_shows Century items && any_shows YearOfCentury items) h) as (λ _. sign_text (year_at v.date) ≡ []) [
  | inl year ↦ plain-shown Year v items held year
  | inr both ↦ plain-shown Century v items held (both_tests (any_shows Century items) (any_shows YearOfCentury items) both).0
]

year-is : (items : List Item) (v : Moment) (at : Component → ℕ) → AreHeld v items → AreOf items v at → IsTrue (shows_year items) → pos (year_in items at) ≡ year_at v.date
year-is items v at held are h = ap (λ k. pos k) (year-size items v at are h) ∙ plain-year (year_at v.date) (year-plain items v held h)

weekday-is : (items : List Item) (v : Moment) (at : Component → ℕ) → AreOf items v at → IsTrue (shows_weekday items) → weekday_in items at ≡ weekday_at v.date
weekday-is items v at are h =
    choice (any_shows Weekday items) ((at Weekday + 6) % 7) _ (weekday_at v.date) (λ s. omega (arith, own items v at Weekday are s, weekday_at-is v.date)) (λ no.
    choice (any_shows DaysFromSunday items) ((at DaysFromSunday + 6) % 7) _ (weekday_at v.date) (λ s. omega (arith, own items v at DaysFromSunday are s, weekday_at-is v.date)) (λ no_second.
    choice (any_shows SundayWeekday items) ((at SundayWeekday + 5) % 7) (at DaysFromMonday) (weekday_at v.date) (λ s. omega (arith, own items v at SundayWeekday are s, weekday_at-is v.date)) (λ no_third.
    let second = other_shown (any_shows Weekday items) _ h no in
    let third = other_shown (any_shows DaysFromSunday items) _ second no_second in
    own items v at DaysFromMonday are (other_shown (any_shows SundayWeekday items) (any_shows DaysFromMonday items) third no_third))))

calendar_date-is : (n y m d : ℕ) → pos y ≡ year_at n → m ≡ month_at n → d ≡ day_of_month_at n → HasCalendarDate (pos y) m d n
calendar_date-is n y m d e f g = λ i. record { year = sym e i; month = sym f i; day = sym g i }

date-is : (items : List Item) (v : Moment) (at : Component → ℕ) → Holds items v → IsTrue (not (shows_timestamp items)) → AreOf items v at → IsDateOf items at v.date
date-is items v at holds date are = record {
  calendar = λ h.
      let year = both_tests (shows_year items) (any_shows Month items && any_shows Day items) h in
      let day = both_tests (any_shows Month items) (any_shows Day items) year.1 in
      calendar_date-is v.date (year_in items at) (at Month) (at Day) (year-is items v at holds.numbers are year.0) (own items v at Month are day.0) (own items v at Day are day.1);
  ordinal = λ _ h.
      let both = both_tests (shows_year items) (any_shows Ordinal items) h in
      (sym (year-is items v at holds.numbers are both.0), sym (own items v at Ordinal are both.1));
  week = λ _ _ h.
      let year = both_tests (any_shows IsoYear items) (any_shows IsoWeek items && shows_weekday items) h in
      let week = both_tests (any_shows IsoWeek items) (shows_weekday items) year.1 in
      let is : pos (at IsoYear) ≡ iso_year_at v.date = ap (λ k. pos k) (own items v at IsoYear are year.0) ∙ plain-year (iso_year_at v.date) (plain-shown IsoYear v items holds.numbers year.0) in
      (sym is, sym (own items v at IsoWeek are week.0), sym (weekday-is items v at are week.1));
  none = λ n. not-shown (shows_date items) v.date (holds.date date) n;
}

-- ---- the time of day
twelve_hours : (h : ℕ) → ((h + 11) % 12 + 1) % 12 + h / 12 * 12 ≡ h
twelve_hours h = omega arith

hour-is : (items : List Item) (v : Moment) (at : Component → ℕ) → AreOf items v at → IsTrue (shows_hour items) → hour_in items at ≡ hour_of v.time
hour-is items v at are h =
    choice (any_shows Hour items) (at Hour) (at Hour12 % 12 + at Period * 12) (hour_of v.time) (λ s. own items v at Hour are s) (λ no.
    let both = either_shown (any_shows Hour items) (any_shows Hour12 items) (any_shows Period items) h no in
    let hour : at Hour12 ≡ (hour_of v.time + 11) % 12 + 1 = own items v at Hour12 are both.0 in
    let period : at Period ≡ hour_of v.time / 12 = own items v at Period are both.1 in
    (λ i. hour i % 12 + period i * 12) ∙ twelve_hours (hour_of v.time))

part-number : (c : Component) (v : Moment) (x : ℕ) → IsTrue (is_within 19 28 c) → x ≡ number c v → nanosecond_of v.time % unit_of c ≡ 0 → x * unit_of c ≡ nanosecond_of v.time
part-number Subsecond1 v x part e h = omega (arith, e, h)
part-number Subsecond2 v x part e h = omega (arith, e, h)
part-number Millisecond v x part e h = omega (arith, e, h)
part-number Subsecond4 v x part e h = omega (arith, e, h)
part-number Subsecond5 v x part e h = omega (arith, e, h)
part-number Microsecond v x part e h = omega (arith, e, h)
part-number Subsecond7 v x part e h = omega (arith, e, h)
part-number Subsecond8 v x part e h = omega (arith, e, h)
part-number Nanosecond v x part e h = omega (arith, e, h)
part-number _ v x part e h = cc

part-or : (b : Bool) (x y n u : ℕ) (rest : Bool) → IsTrue (if b then n % u == 0 else rest) → (IsTrue b → n % u ≡ 0 → x ≡ n) → (IsTrue rest → y ≡ n) → (if b then x else y) ≡ n
part-or true x y n u rest h f g = f refl (same_test (n % u) 0 h)
part-or false x y n u rest h f g = g h

parts-are : (components : List Component) (items : List Item) (v : Moment) (at : Component → ℕ) → AreOf items v at → AreParts components → IsTrue (holds_parts_of_second components items (nanosecond_of v.time))
    → nanoseconds_of components items at ≡ nanosecond_of v.time
parts-are [] items v at are parts h = sym (same_test (nanosecond_of v.time) 0 h)
parts-are (c ∷ components) items v at are parts h =
    part-or (any_shows c items) (at c * unit_of c) (nanoseconds_of components items at) (nanosecond_of v.time) (unit_of c) _ h
    (λ s whole. part-number c v (at c) parts.0 (own items v at c are s) whole) (parts-are components items v at are parts.1)

nanosecond-is : (items : List Item) (v : Moment) (at : Component → ℕ) → AreOf items v at → IsTrue (holds_subsecond items (nanosecond_of v.time)) → nanosecond_in items at ≡ nanosecond_of v.time
nanosecond-is items v at are h = parts-are subseconds items v at are all-parts h

time-is : (items : List Item) (v : Moment) (at : Component → ℕ) → IsTime v.time → AreOf items v at → IsTrue (shows_time items) → IsTrue (holds_parts items v.time) → time_in items at ≡ v.time
time-is items v at range are h holds =
    let shown = time-shown items v.time h holds in
    let minute = agrees-whole (any_shows Minute items) (at Minute) (minute_of v.time) shown.minute (are Minute) in
    let second = agrees-whole (any_shows Second items) (at Second) (second_of v.time) shown.second (are Second) in
    let hour = hour-is items v at are shown.hour in
    let nanosecond = nanosecond-is items v at are shown.subsecond in
    (λ i. time_of (hour i) (minute i) (second i) (nanosecond i)) ∙ time-parts v.time range

-- ---- the offset
offset-is : (items : List Item) (v : Moment) (at : Component → ℕ) → Holds items v → AreOf items v at → IsTrue (shows_offset items) → offset_in at ≡ v.offset
offset-is items v at holds are h =
    let shown = offset-shown items v.offset h holds.offset_parts in
    let minute = agrees-whole (any_shows OffsetMinute items) (at OffsetMinute) (unsigned_abs v.offset / 60 % 60) shown.minute (are OffsetMinute) in
    let second = agrees-whole (any_shows OffsetSecond items) (at OffsetSecond) (unsigned_abs v.offset % 60) shown.second (are OffsetSecond) in
    let size = offset-size v.offset (at OffsetHour) (at OffsetMinute) (at OffsetSecond) (own items v at OffsetHour are shown.hour) minute second in
    signed-is v.offset (at OffsetSign) (at OffsetHour * 3_600 + at OffsetMinute * 60 + at OffsetSecond) (own items v at OffsetSign are shown.sign) size

pub own-moment : (items : List Item) (v : Moment) (at : Component → ℕ) → Holds items v → AreOf items v at → IsMomentOf items at v
own-moment items v at holds are = record {
  in_range = holds.in_range;
  timestamp = λ h.
      let both = both_tests (any_shows TimestampSign items) (any_shows Timestamp items) h in
      let held = then-holds (shows_timestamp items) (holds_subsecond items (nanosecond_of v.time)) (holds_parts items v.time) h holds.parts in
      (sym (signed-is (timestamp_of v) (at TimestampSign) (at Timestamp) (own items v at TimestampSign are both.0) (own items v at Timestamp are both.1)), sym (nanosecond-is items v at are held));
  date = λ n. date-is items v at holds n are;
  time = λ n.
      let held = else-holds (shows_timestamp items) (holds_subsecond items (nanosecond_of v.time)) (holds_parts items v.time) n holds.parts in
      sym (choice (shows_time items) (time_in items at) 0 v.time (λ h. time-is items v at holds.in_range.time are h held) (λ no. sym (not-shown (shows_time items) v.time (holds.time n) (is-not (shows_time items) no))));
  offset = sym (choice (shows_offset items) (offset_in at) (pos 0) v.offset (λ h. offset-is items v at holds are h) (λ no.
      sym (no-offset v.offset (else-holds (shows_offset items) _ (unsigned_abs v.offset == 0) (is-not (shows_offset items) no) holds.offset_parts))));
}
