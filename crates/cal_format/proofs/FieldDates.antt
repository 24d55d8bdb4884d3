-- The date of fields is the date of the text.
use Rattle.std.proofs.Common.{◌≡◌, ℕ, ◌+◌, ◌%◌, ◌≤◌, List, [], ◌∷◌, refl, sym, ap, subst, ◌∙◌, arith, inl, inr}
use Rattle.std.specs.Prelude.{Bool, true, false, ◌||◌, ◌&&◌, not, IsTrue, Option, Some, None, pos, unsigned_abs}
use Rattle.std.proofs.lemmas.Bool.Decides.{nat_tests}
use Rattle.cal_time.specs.Date.{HasCalendarDate, HasOrdinalDate}
use Rattle.cal_time.specs.DateText.{sign_text}
use Rattle.cal_time.specs.IsoWeekDate.{HasIsoWeekDate}
use Rattle.cal_format.specs.declared.fields.Fields.{Fields}
use Rattle.cal_format.specs.declared.item.Component.{Component}
use Rattle.cal_format.specs.declared.item.Component.TheVariants.{Year, Century, YearOfCentury, IsoYear, Month, Day, Ordinal, IsoWeek, Weekday, DaysFromMonday, DaysFromSunday, SundayWeekday, SundayWeek, MondayWeek, Timestamp, TimestampSign}
use Rattle.cal_format.specs.declared.item.Item.{Item}
use Rattle.cal_format.specs.declared.item.Item.TheVariants as item
use Rattle.cal_format.specs.declared.moment.Moment.{Moment}
use Rattle.cal_format.specs.Moment.{number, moment_of_date}
use Rattle.cal_format.specs.Ranges.{either}
use Rattle.cal_format.specs.Reading.{index, mark_of, is_component, item_component, shows, any_shows, is_within, lies_within, shows_within, show_within, shows_year, shows_weekday, shows_calendar_date, shows_ordinal_date, shows_iso_week_date, shows_date, shows_timestamp, are_date_items, are_apart, DeterminesDate}
use Rattle.cal_format.specs.Scanning.{number_at, field_of, fields_of, HasDateNumbers, IsNumberedDate, IsDateOfFields, IsOneDate}
use Rattle.cal_format.specs.Shown.{is_calendar, is_ordinal, is_week}
use Rattle.cal_format.specs.Text.{sign}
use Rattle.cal_format.specs.Values.{contradiction, first_contradiction, year_in, weekday_in, IsDateOf}
use Rattle.cal_format.proofs.Apart.{either_test, both_tests, same_test, index-one}
use Rattle.cal_format.proofs.Choices.{first-choice, is-not}
use Rattle.cal_format.proofs.Contradictions.{same-text}
use Rattle.cal_format.proofs.FieldShapes.{clash, CalendarMarks, OrdinalMarks, WeekMarks, calendar-marks, ordinal-marks, week-marks}
use Rattle.cal_format.proofs.Moments.{date-holds}
use Rattle.cal_format.proofs.OnePass.{IsScanned, held-read, own-index, first-or, second-or}
use Rattle.cal_format.proofs.Own.{agrees}

-- ---- no number contradicts the date
-- The component has its number of the moment in the fields, and no sign.
abbrev pub Agrees : Component → Fields → Moment → Type 0
Agrees c f v = (number c v ≡ number_at c f) × (sign c v ≡ [])

plain-sign : (n : ℕ) → n ≤ 9_999 → sign_text (pos n) ≡ []
plain-sign n low = grind (arith, nat_tests)

calendar-agrees : (c : Component) (f : Fields) (v : Moment) → IsDateOfFields f v.date → CalendarMarks f.shown.marks → HasCalendarDate (pos (number_at Year f)) (number_at Month f) (number_at Day f) v.date
    → IsTrue (mark_of c f.shown.marks) → IsTrue (is_within 0 14 c) → Agrees c f v
calendar-agrees Year f v is m has shown h = (ap (λ d. unsigned_abs d.year) has, ap (λ d. sign_text d.year) has ∙ plain-sign (number_at Year f) is.numbered.year)
calendar-agrees Month f v is m has shown h = (ap (λ d. d.month) has, refl)
calendar-agrees Day f v is m has shown h = (ap (λ d. d.day) has, refl)
calendar-agrees Weekday f v is m has shown h = (sym (is.weekday shown), refl)
calendar-agrees IsoYear f v is m has shown h = absurd (clash (mark_of IsoYear f.shown.marks) shown m.iso_year)
calendar-agrees Ordinal f v is m has shown h = absurd (clash (mark_of Ordinal f.shown.marks) shown m.ordinal)
calendar-agrees IsoWeek f v is m has shown h = absurd (clash (mark_of IsoWeek f.shown.marks) shown m.week)
calendar-agrees Century f v is m has shown h = absurd (clash (mark_of Century f.shown.marks) shown m.rare.century)
calendar-agrees YearOfCentury f v is m has shown h = absurd (clash (mark_of YearOfCentury f.shown.marks) shown m.rare.year)
calendar-agrees DaysFromMonday f v is m has shown h = absurd (clash (mark_of DaysFromMonday f.shown.marks) shown m.rare.monday)
calendar-agrees DaysFromSunday f v is m has shown h = absurd (clash (mark_of DaysFromSunday f.shown.marks) shown m.rare.sunday)
calendar-agrees SundayWeekday f v is m has shown h = absurd (clash (mark_of SundayWeekday f.shown.marks) shown m.rare.weekday)
calendar-agrees SundayWeek f v is m has shown h = absurd (clash (mark_of SundayWeek f.shown.marks) shown m.rare.sunday_week)
calendar-agrees MondayWeek f v is m has shown h = absurd (clash (mark_of MondayWeek f.shown.marks) shown m.rare.monday_week)
calendar-agrees _ f v is m has shown h = cc

ordinal-agrees : (c : Component) (f : Fields) (v : Moment) → IsDateOfFields f v.date → OrdinalMarks f.shown.marks → HasOrdinalDate (pos (number_at Year f)) (number_at Ordinal f) v.date
    → IsTrue (mark_of c f.shown.marks) → IsTrue (is_within 0 14 c) → Agrees c f v
ordinal-agrees Year f v is m has shown h = (ap unsigned_abs has.0, ap sign_text has.0 ∙ plain-sign (number_at Year f) is.numbered.year)
ordinal-agrees Ordinal f v is m has shown h = (has.1, refl)
ordinal-agrees Month f v is m has shown h = absurd (clash (mark_of Month f.shown.marks) shown m.month)
ordinal-agrees Day f v is m has shown h = absurd (clash (mark_of Day f.shown.marks) shown m.day)
ordinal-agrees Weekday f v is m has shown h = absurd (clash (mark_of Weekday f.shown.marks) shown m.weekday)
ordinal-agrees IsoYear f v is m has shown h = absurd (clash (mark_of IsoYear f.shown.marks) shown m.iso_year)
ordinal-agrees IsoWeek f v is m has shown h = absurd (clash (mark_of IsoWeek f.shown.marks) shown m.week)
ordinal-agrees Century f v is m has shown h = absurd (clash (mark_of Century f.shown.marks) shown m.rare.century)
ordinal-agrees YearOfCentury f v is m has shown h = absurd (clash (mark_of YearOfCentury f.shown.marks) shown m.rare.year)
ordinal-agrees DaysFromMonday f v is m has shown h = absurd (clash (mark_of DaysFromMonday f.shown.marks) shown m.rare.monday)
ordinal-agrees DaysFromSunday f v is m has shown h = absurd (clash (mark_of DaysFromSunday f.shown.marks) shown m.rare.sunday)
ordinal-agrees SundayWeekday f v is m has shown h = absurd (clash (mark_of SundayWeekday f.shown.marks) shown m.rare.weekday)
ordinal-agrees SundayWeek f v is m has shown h = absurd (clash (mark_of SundayWeek f.shown.marks) shown m.rare.sunday_week)
ordinal-agrees MondayWeek f v is m has shown h = absurd (clash (mark_of MondayWeek f.shown.marks) shown m.rare.monday_week)
ordinal-agrees _ f v is m has shown h = cc

week-agrees : (c : Component) (f : Fields) (v : Moment) → IsDateOfFields f v.date → WeekMarks f.shown.marks → HasIsoWeekDate (pos (number_at IsoYear f)) (number_at IsoWeek f) ((number_at Weekday f + 6) % 7) v.date
    → IsTrue (mark_of c f.shown.marks) → IsTrue (is_within 0 14 c) → Agrees c f v
week-agrees IsoYear f v is m has shown h = (ap unsigned_abs has.0, ap sign_text has.0 ∙ plain-sign (number_at IsoYear f) is.numbered.iso_year)
week-agrees IsoWeek f v is m has shown h = (has.1, refl)
week-agrees Weekday f v is m has shown h = (sym (is.weekday shown), refl)
week-agrees Year f v is m has shown h = absurd (clash (mark_of Year f.shown.marks) shown m.year)
week-agrees Month f v is m has shown h = absurd (clash (mark_of Month f.shown.marks) shown m.month)
week-agrees Day f v is m has shown h = absurd (clash (mark_of Day f.shown.marks) shown m.day)
week-agrees Ordinal f v is m has shown h = absurd (clash (mark_of Ordinal f.shown.marks) shown m.ordinal)
week-agrees Century f v is m has shown h = absurd (clash (mark_of Century f.shown.marks) shown m.rare.century)
week-agrees YearOfCentury f v is m has shown h = absurd (clash (mark_of YearOfCentury f.shown.marks) shown m.rare.year)
week-agrees DaysFromMonday f v is m has shown h = absurd (clash (mark_of DaysFromMonday f.shown.marks) shown m.rare.monday)
week-agrees DaysFromSunday f v is m has shown h = absurd (clash (mark_of DaysFromSunday f.shown.marks) shown m.rare.sunday)
week-agrees SundayWeekday f v is m has shown h = absurd (clash (mark_of SundayWeekday f.shown.marks) shown m.rare.weekday)
week-agrees SundayWeek f v is m has shown h = absurd (clash (mark_of SundayWeek f.shown.marks) shown m.rare.sunday_week)
week-agrees MondayWeek f v is m has shown h = absurd (clash (mark_of MondayWeek f.shown.marks) shown m.rare.monday_week)
week-agrees _ f v is m has shown h = cc

pub date-agrees : (c : Component) (f : Fields) (v : Moment) → IsDateOfFields f v.date → IsTrue (mark_of c f.shown.marks) → IsTrue (is_within 0 14 c) → Agrees c f v
date-agrees c f v is shown h =
    let m = f.shown.marks in
    let has = is.numbered.has in
    elim (either_test (is_calendar m) (is_ordinal m || is_week m) is.numbered.shape) as (λ _. Agrees c f v) [
      | inl a ↦ calendar-agrees c f v is (calendar-marks m a) (has.calendar a) shown h
      | inr others ↦ elim (either_test (is_ordinal m) (is_week m) others) as (λ _. Agrees c f v) [
        | inl b ↦ ordinal-agrees c f v is (ordinal-marks m b) (has.ordinal b) shown h
        | inr w ↦ week-agrees c f v is (week-marks m w) (has.week w) shown h
      ]
    ]

same-agrees : (c : Component) (v : Moment) (n : ℕ) → number c v ≡ n → sign c v ≡ [] → contradiction (Some c) n v ≡ None
same-agrees c v n e plain = subst (λ k. contradiction (Some c) k v ≡ None) e (agrees c v plain)

option-agrees : (o : Option Component) (f : Fields) (v : Moment) → ((c : Component) → IsTrue (is_component c o) → Agrees c f v) → contradiction o (field_of f o) v ≡ None
option-agrees None f v agree = refl
option-agrees (Some c) f v agree = let own = agree c (own-index c) in same-agrees c v (number_at c f) own.0 own.1

pub all-agree : (items : List Item) (f : Fields) (v : Moment) → ((c : Component) → IsTrue (any_shows c items) → Agrees c f v) → first_contradiction items (fields_of items f) v ≡ None
all-agree [] f v agree = refl
all-agree (i ∷ items) f v agree =
    let first = option-agrees (item_component i) f v (λ c k. agree c (first-or (shows c i) (any_shows c items) k)) in
    ap (λ e. either e (first_contradiction items (fields_of items f) v)) first ∙ all-agree items f v (λ c k. agree c (second-or (shows c i) (any_shows c items) k))

-- ---- the components that are shown
within-option : (low high : ℕ) (i : Item) → IsTrue (shows_within low high i) → IsTrue (lies_within low high (item_component i))
within-option low high (item.Literal b) h = h
within-option low high (item.Number c p) h = h
within-option low high (item.Signed c p) h = h
within-option low high (item.Name k) h = h
within-option low high item.Fraction h = h
within-option low high item.Decimals h = h
within-option low high item.OffsetSign h = h
within-option low high item.OffsetMinus h = h
within-option low high item.TimestampSign h = h
within-option low high item.TimestampMinus h = h
within-option low high item.Abbreviation h = cc

pub shown-within : (low high : ℕ) (c : Component) (items : List Item) → IsTrue (show_within low high items) → IsTrue (any_shows c items) → IsTrue (is_within low high c)
shown-within low high c [] h k = cc
shown-within low high c (i ∷ items) h k =
    let both = both_tests (shows_within low high i) (show_within low high items) h in
    elim (either_test (shows c i) (any_shows c items) k) as (λ _. IsTrue (is_within low high c)) [
      | inl here ↦ option-within c (item_component i) here (within-option low high i both.0)
      | inr later ↦ shown-within low high c items both.1 later
    ]
  where
    option-within : (d : Component) (o : Option Component) → IsTrue (is_component d o) → IsTrue (lies_within low high o) → IsTrue (is_within low high d)
    option-within d None s w = cc
    option-within d (Some e) s w = subst (λ j. IsTrue (is_within low high j)) (index-one e d (same_test (index e) (index d) s)) w

false-of : (b : Bool) → (IsTrue b → ⊥) → b ≡ false
false-of true h = absurd (h refl)
false-of false h = refl

pub none-shown : (low high : ℕ) (c : Component) (items : List Item) → IsTrue (show_within low high items) → (IsTrue (is_within low high c) → ⊥) → any_shows c items ≡ false
none-shown low high c items h past = false-of (any_shows c items) (λ s. past (shown-within low high c items h s))

pub no-first : (a b : Bool) → a ≡ false → (a && b) ≡ false
no-first true b e = cc
no-first false b e = refl

no-second : (a b c : Bool) → b ≡ false → (a && (b && c)) ≡ false
no-second true true c e = cc
no-second true false c e = refl
no-second false b c e = refl

both-true : (a b : Bool) → IsTrue a → IsTrue b → IsTrue (a && b)
both-true true b h k = k
both-true false b h k = cc

pub no-year : (a b c : Bool) → a ≡ false → b ≡ false → (a || (b && c)) ≡ false
no-year true b c e g = cc
no-year false true c e g = cc
no-year false false c e g = refl

pub no-timestamp : (high : ℕ) (low : ℕ) (items : List Item) → high ≤ 33 → IsTrue (show_within low high items) → IsTrue (not (shows_timestamp items))
no-timestamp high low items most h =
    is-not (shows_timestamp items) (no-first (any_shows TimestampSign items) (any_shows Timestamp items) (none-shown low high TimestampSign items h past))
  where
    past : IsTrue (is_within low high TimestampSign) → ⊥
    past k = grind (arith, nat_tests)

-- ---- the format determines the date
-- The marks are the components that the items show.
abbrev pub AreMarks : List Item → Fields → Type 0
AreMarks items f = (c : Component) → mark_of c f.shown.marks ≡ any_shows c items

calendar-shown : (items : List Item) (f : Fields) → AreMarks items f → CalendarMarks f.shown.marks → IsTrue (shows_calendar_date items)
calendar-shown items f are m =
    both-true (shows_year items) _ (first-or (any_shows Year items) _ (sym (are Year) ∙ m.year)) (both-true (any_shows Month items) (any_shows Day items) (sym (are Month) ∙ m.month) (sym (are Day) ∙ m.day))

ordinal-shown : (items : List Item) (f : Fields) → AreMarks items f → OrdinalMarks f.shown.marks → IsTrue (shows_ordinal_date items)
ordinal-shown items f are m = both-true (shows_year items) _ (first-or (any_shows Year items) _ (sym (are Year) ∙ m.year)) (sym (are Ordinal) ∙ m.ordinal)

week-shown : (items : List Item) (f : Fields) → AreMarks items f → WeekMarks f.shown.marks → IsTrue (shows_iso_week_date items)
week-shown items f are m =
    both-true (any_shows IsoYear items) _ (sym (are IsoYear) ∙ m.iso_year)
    (both-true (any_shows IsoWeek items) (shows_weekday items) (sym (are IsoWeek) ∙ m.week) (first-or (any_shows Weekday items) _ (sym (are Weekday) ∙ m.weekday)))

no-month : (items : List Item) (f : Fields) → AreMarks items f → mark_of Month f.shown.marks ≡ false → shows_calendar_date items ≡ false
no-month items f are e = no-second (shows_year items) (any_shows Month items) (any_shows Day items) (sym (are Month) ∙ e)

week-no-year : (items : List Item) (f : Fields) → AreMarks items f → WeekMarks f.shown.marks → shows_year items ≡ false
week-no-year items f are m = no-year (any_shows Year items) (any_shows Century items) (any_shows YearOfCentury items) (sym (are Year) ∙ m.year) (sym (are Century) ∙ m.rare.century)

pub date-shown : (items : List Item) (f : Fields) → AreMarks items f → IsTrue (is_calendar f.shown.marks || (is_ordinal f.shown.marks || is_week f.shown.marks)) → IsTrue (shows_date items)
date-shown items f are shape =
    let m = f.shown.marks in
    elim (either_test (is_calendar m) (is_ordinal m || is_week m) shape) as (λ _. IsTrue (shows_date items)) [
      | inl a ↦ first-or (shows_calendar_date items) _ (calendar-shown items f are (calendar-marks m a))
      | inr others ↦ second-or (shows_calendar_date items) _ (elim (either_test (is_ordinal m) (is_week m) others) as (λ _. IsTrue (shows_ordinal_date items || shows_iso_week_date items)) [
        | inl b ↦ first-or (shows_ordinal_date items) _ (ordinal-shown items f are (ordinal-marks m b))
        | inr w ↦ second-or (shows_ordinal_date items) _ (week-shown items f are (week-marks m w))
      ])
    ]

own-year : (items : List Item) (f : Fields) → IsTrue (any_shows Year items) → number_at Year f ≡ year_in items (λ c. number_at c f)
own-year items f shown = first-choice (any_shows Year items) (number_at Year f) _ shown

own-weekday : (items : List Item) (f : Fields) → IsTrue (any_shows Weekday items) → (number_at Weekday f + 6) % 7 ≡ weekday_in items (λ c. number_at c f)
own-weekday items f shown = first-choice (any_shows Weekday items) ((number_at Weekday f + 6) % 7) _ shown

-- A day of the numbers of the items has the numbers of the fields, and the other way round.
pub has-numbers : (items : List Item) (f : Fields) (n : ℕ) → AreMarks items f → IsDateOf items (λ c. number_at c f) n → HasDateNumbers f n
has-numbers items f n are is = record {
  calendar = λ h.
      let m = calendar-marks f.shown.marks h in
      subst (λ y. HasCalendarDate (pos y) (number_at Month f) (number_at Day f) n) (sym (own-year items f (sym (are Year) ∙ m.year))) (is.calendar (calendar-shown items f are m));
  ordinal = λ h.
      let m = ordinal-marks f.shown.marks h in
      subst (λ y. HasOrdinalDate (pos y) (number_at Ordinal f) n) (sym (own-year items f (sym (are Year) ∙ m.year)))
      (is.ordinal (is-not (shows_calendar_date items) (no-month items f are m.month)) (ordinal-shown items f are m));
  week = λ h.
      let m = week-marks f.shown.marks h in
      subst (λ d. HasIsoWeekDate (pos (number_at IsoYear f)) (number_at IsoWeek f) d n) (sym (own-weekday items f (sym (are Weekday) ∙ m.weekday)))
      (is.week (is-not (shows_calendar_date items) (no-month items f are m.month)) (is-not (shows_ordinal_date items) (no-first (shows_year items) (any_shows Ordinal items) (week-no-year items f are m)))
      (week-shown items f are m));
}

not-both : {P : Type 0} (b : Bool) → IsTrue b → IsTrue (not b) → P
not-both true h k = cc
not-both false h k = cc

calendar-of : (items : List Item) (f : Fields) (n : ℕ) → AreMarks items f → IsTrue (is_calendar f.shown.marks) → HasDateNumbers f n → IsDateOf items (λ c. number_at c f) n
calendar-of items f n are h has =
    let m = calendar-marks f.shown.marks h in
    let shown = calendar-shown items f are m in
    record {
      calendar = λ k. subst (λ y. HasCalendarDate (pos y) (number_at Month f) (number_at Day f) n) (own-year items f (sym (are Year) ∙ m.year)) (has.calendar h);
      ordinal = λ not-calendar k. not-both (shows_calendar_date items) shown not-calendar;
      week = λ not-calendar not-ordinal k. not-both (shows_calendar_date items) shown not-calendar;
      none = λ k. not-both (shows_date items) (first-or (shows_calendar_date items) _ shown) k;
    }

ordinal-of : (items : List Item) (f : Fields) (n : ℕ) → AreMarks items f → IsTrue (is_ordinal f.shown.marks) → HasDateNumbers f n → IsDateOf items (λ c. number_at c f) n
ordinal-of items f n are h has =
    let m = ordinal-marks f.shown.marks h in
    let shown = ordinal-shown items f are m in
    record {
      calendar = λ k. absurd (clash (shows_calendar_date items) k (no-month items f are m.month));
      ordinal = λ not-calendar k. subst (λ y. HasOrdinalDate (pos y) (number_at Ordinal f) n) (own-year items f (sym (are Year) ∙ m.year)) (has.ordinal h);
      week = λ not-calendar not-ordinal k. not-both (shows_ordinal_date items) shown not-ordinal;
      none = λ k. not-both (shows_date items) (second-or (shows_calendar_date items) _ (first-or (shows_ordinal_date items) _ shown)) k;
    }

week-of : (items : List Item) (f : Fields) (n : ℕ) → AreMarks items f → IsTrue (is_week f.shown.marks) → HasDateNumbers f n → IsDateOf items (λ c. number_at c f) n
week-of items f n are h has =
    let m = week-marks f.shown.marks h in
    let shown = week-shown items f are m in
    record {
      calendar = λ k. absurd (clash (shows_calendar_date items) k (no-month items f are m.month));
      ordinal = λ not-calendar k. absurd (clash (shows_ordinal_date items) k (no-first (shows_year items) (any_shows Ordinal items) (week-no-year items f are m)));
      week = λ not-calendar not-ordinal k.
          subst (λ d. HasIsoWeekDate (pos (number_at IsoYear f)) (number_at IsoWeek f) d n) (own-weekday items f (sym (are Weekday) ∙ m.weekday)) (has.week h);
      none = λ k. not-both (shows_date items) (second-or (shows_calendar_date items) _ (second-or (shows_ordinal_date items) _ shown)) k;
    }

pub date-of : (items : List Item) (f : Fields) (n : ℕ) → AreMarks items f → IsNumberedDate f n → IsDateOf items (λ c. number_at c f) n
date-of items f n are is =
    let m = f.shown.marks in
    let P = IsDateOf items (λ c. number_at c f) n in
    elim (either_test (is_calendar m) (is_ordinal m || is_week m) is.shape) as (λ _. P) [
      | inl a ↦ calendar-of items f n are a is.has
      | inr others ↦ elim (either_test (is_ordinal m) (is_week m) others) as (λ _. P) [
        | inl b ↦ ordinal-of items f n are b is.has
        | inr w ↦ week-of items f n are w is.has
      ]
    ]

pub one-date : (items : List Item) (f : Fields) (text : List ℕ) (n : ℕ) → IsScanned items f text → AreMarks items f → IsTrue (are_apart items) → IsTrue (are_date_items items) → IsDateOfFields f n
    → IsOneDate items n text
one-date items f text n read are apart within is =
    let v = moment_of_date n in
    let agree = all-agree items f v (λ c h. date-agrees c f v is (are c ∙ h) (shown-within 0 14 c items within h)) in
    let same = same-text items (fields_of items f) v read.has.fit agree in
    let determines : DeterminesDate items = (apart, within, date-shown items f are is.numbered.shape) in
    record {
      determines = determines;
      date = is.numbered.date;
      held = same.1;
      text_is = read.has.text_is ∙ same.0;
      every = λ w date held e.
          let own = held-read items f text (moment_of_date w) read apart (date-holds items w determines date held) e in
          is.numbered.only w date (has-numbers items f w are (own.date (no-timestamp 14 0 items (omega arith) within)));
    }
