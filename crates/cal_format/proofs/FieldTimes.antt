-- The time of day of fields, alone or after a date, is the time of day of the text.
use Rattle.std.proofs.Common.{◌≡◌, ℕ, ◌+◌, ◌*◌, ◌/◌, ◌%◌, ◌≤◌, List, refl, sym, subst, ◌∙◌, arith, inl, inr, lit≤}
use Rattle.std.specs.Prelude.{Bool, true, false, ◌||◌, ◌&&◌, not, IsTrue, pos, if◌then◌else◌}
use Rattle.std.proofs.lemmas.Bool.Decides.{nat_tests}
use Rattle.cal_time.specs.Time.{IsTime, hour_of, nanosecond_of, time_of}
use Rattle.cal_datetime.specs.DateTime.{date_time, date_at, time_at}
use Rattle.cal_datetime.specs.DateTimeLaws.{IsDateTime-date_time, date_at-date_time, time_at-date_time, date_time-parts}
use Rattle.cal_format.specs.declared.fields.Fields.{Fields}
use Rattle.cal_format.specs.declared.item.Component.{Component}
use Rattle.cal_format.specs.declared.item.Component.TheVariants.{Year, Century, YearOfCentury, IsoYear, Hour, Hour12, Minute, Second, Period, Subsecond1, Subsecond2, Millisecond, Subsecond4, Subsecond5, Microsecond, Subsecond7, Subsecond8, Nanosecond, OffsetSign}
use Rattle.cal_format.specs.declared.item.Item.{Item}
use Rattle.cal_format.specs.declared.moment.Moment.{Moment}
use Rattle.cal_format.specs.Moment.{moment_of_time, moment_of_date_time}
use Rattle.cal_format.specs.Reading.{mark_of, any_shows, is_within, show_within, shows_year, shows_calendar_date, shows_ordinal_date, shows_iso_week_date, shows_date, shows_hour, shows_subsecond, shows_time, shows_offset, shows_timestamp, are_apart, are_time_items, are_date_time_items, DeterminesTime, DeterminesDateTime}
use Rattle.cal_format.specs.Scanning.{number_at, IsDateOfFields, IsTimeOfFields, IsOneTime, IsOnePair}
use Rattle.cal_format.specs.Shown.{shows_part, is_clock}
use Rattle.cal_format.specs.Values.{hour_in, nanosecond_in, time_in, IsDateOf, IsMomentOf}
use Rattle.cal_format.proofs.Apart.{either_test}
use Rattle.cal_format.proofs.Choices.{first-choice, other-choice}
use Rattle.cal_format.proofs.FieldDates.{Agrees, AreMarks, all-agree, date-agrees, shown-within, none-shown, no-first, no-year, no-timestamp, date-shown, date-of, has-numbers}
use Rattle.cal_format.proofs.FieldShapes.{clash, ClockMarks, clock-marks}
use Rattle.cal_format.proofs.Marks.{neither-shown}
use Rattle.cal_format.proofs.Moments as moments
use Rattle.cal_format.proofs.OnePass.{IsScanned, held-read, read-printed, first-or}
use Rattle.cal_format.proofs.Times.{time-parts}

-- ---- no number contradicts the time of day
-- An hour is shown by one number, or by one and the half of the day.
pub no-hour : (a b c : Bool) → IsTrue (if a then not (b || c) else (b && c)) → IsTrue (b || c) → a ≡ false
no-hour true true c h k = cc
no-hour true false true h k = cc
no-hour true false false h k = cc
no-hour false b c h k = refl

-- At most one part of a second is shown.
no-nanosecond : (a b c : Bool) → IsTrue (if a then not (b || c) else not (b && c)) → IsTrue (b || c) → a ≡ false
no-nanosecond true true c h k = cc
no-nanosecond true false true h k = cc
no-nanosecond true false false h k = cc
no-nanosecond false b c h k = refl

no-microsecond : (a b c : Bool) → IsTrue (if a then not (b || c) else not (b && c)) → IsTrue c → b ≡ false
no-microsecond true true c h k = cc
no-microsecond false true true h k = cc
no-microsecond false true false h k = cc
no-microsecond a false c h k = refl

or-last : (b c : Bool) → IsTrue c → IsTrue (b || c)
or-last true c h = refl
or-last false c h = h

micro-part : (x n : ℕ) → x * 1_000 ≡ n → n / 1_000 ≡ x
micro-part x n e = omega (arith, e)

milli-part : (x n : ℕ) → x * 1_000_000 ≡ n → n / 1_000_000 ≡ x
milli-part x n e = omega (arith, e)

time-agrees : (c : Component) (f : Fields) (v : Moment) → IsTimeOfFields f v.time → ClockMarks f.shown.marks → IsTrue (mark_of c f.shown.marks) → IsTrue (is_within 14 28 c) → Agrees c f v
time-agrees Hour f v is m shown h = (sym (is.hour.hour shown), refl)
time-agrees Hour12 f v is m shown h =
    let marks = f.shown.marks in
    let none = no-hour (mark_of Hour marks) (mark_of Hour12 marks) (mark_of Period marks) m.hour (first-or (mark_of Hour12 marks) (mark_of Period marks) shown) in
    (sym (is.hour.hour12 none).0, refl)
time-agrees Period f v is m shown h =
    let marks = f.shown.marks in
    let none = no-hour (mark_of Hour marks) (mark_of Hour12 marks) (mark_of Period marks) m.hour (or-last (mark_of Hour12 marks) (mark_of Period marks) shown) in
    (sym (is.hour.hour12 none).1, refl)
time-agrees Minute f v is m shown h = (sym is.minute, refl)
time-agrees Second f v is m shown h = (sym is.second, refl)
time-agrees Nanosecond f v is m shown h = (sym (first-choice (mark_of Nanosecond f.shown.marks) (number_at Nanosecond f) _ shown ∙ is.nanosecond), refl)
time-agrees Microsecond f v is m shown h =
    let marks = f.shown.marks in
    let none = no-nanosecond (mark_of Nanosecond marks) (mark_of Microsecond marks) (mark_of Millisecond marks) m.part (first-or (mark_of Microsecond marks) (mark_of Millisecond marks) shown) in (
      micro-part (number_at Microsecond f) (nanosecond_of v.time)
          (first-choice (mark_of Microsecond marks) (number_at Microsecond f * 1_000) _ shown ∙ other-choice (mark_of Nanosecond marks) (number_at Nanosecond f) _ none ∙ is.nanosecond),
      refl,
    )
time-agrees Millisecond f v is m shown h =
    let marks = f.shown.marks in
    let none = no-nanosecond (mark_of Nanosecond marks) (mark_of Microsecond marks) (mark_of Millisecond marks) m.part (or-last (mark_of Microsecond marks) (mark_of Millisecond marks) shown) in
    let other = no-microsecond (mark_of Nanosecond marks) (mark_of Microsecond marks) (mark_of Millisecond marks) m.part shown in (
      milli-part (number_at Millisecond f) (nanosecond_of v.time)
          (first-choice (mark_of Millisecond marks) (number_at Millisecond f * 1_000_000) 0 shown ∙ other-choice (mark_of Microsecond marks) (number_at Microsecond f * 1_000) _ other
          ∙ other-choice (mark_of Nanosecond marks) (number_at Nanosecond f) _ none ∙ is.nanosecond),
      refl,
    )
time-agrees Subsecond1 f v is m shown h = absurd (clash (mark_of Subsecond1 f.shown.marks) shown m.part_1)
time-agrees Subsecond2 f v is m shown h = absurd (clash (mark_of Subsecond2 f.shown.marks) shown m.part_2)
time-agrees Subsecond4 f v is m shown h = absurd (clash (mark_of Subsecond4 f.shown.marks) shown m.part_4)
time-agrees Subsecond5 f v is m shown h = absurd (clash (mark_of Subsecond5 f.shown.marks) shown m.part_5)
time-agrees Subsecond7 f v is m shown h = absurd (clash (mark_of Subsecond7 f.shown.marks) shown m.part_7)
time-agrees Subsecond8 f v is m shown h = absurd (clash (mark_of Subsecond8 f.shown.marks) shown m.part_8)
time-agrees _ f v is m shown h = cc

-- ---- the format determines the time of day
-- Of the parts of a second only these three are shown.
some-part : (n s8 s7 u s5 s4 m s2 s1 : Bool) → s8 ≡ false → s7 ≡ false → s5 ≡ false → s4 ≡ false → s2 ≡ false → s1 ≡ false
    → (n || (s8 || (s7 || (u || (s5 || (s4 || (m || (s2 || (s1 || false))))))))) ≡ (n || (u || m))
some-part n true s7 u s5 s4 m s2 s1 a b c d e f = cc
some-part n false true u s5 s4 m s2 s1 a b c d e f = cc
some-part n false false u true s4 m s2 s1 a b c d e f = cc
some-part n false false u false true m s2 s1 a b c d e f = cc
some-part n false false u false false m true s1 a b c d e f = cc
some-part n false false u false false m false true a b c d e f = cc
some-part true false false u false false m false false a b c d e f = refl
some-part false false false true false false m false false a b c d e f = refl
some-part false false false false false false true false false a b c d e f = refl
some-part false false false false false false false false false a b c d e f = refl

one-part : (n s8 s7 u s5 s4 m s2 s1 : Bool) (x x8 x7 y x5 x4 z x2 x1 : ℕ) → s8 ≡ false → s7 ≡ false → s5 ≡ false → s4 ≡ false → s2 ≡ false → s1 ≡ false
    → (if n then x * 1 else (if s8 then x8 else (if s7 then x7 else (if u then y else (if s5 then x5 else (if s4 then x4 else (if m then z else (if s2 then x2 else (if s1 then x1 else 0)))))))))
    ≡ (if n then x else (if u then y else (if m then z else 0)))
one-part n true s7 u s5 s4 m s2 s1 x x8 x7 y x5 x4 z x2 x1 a b c d e f = cc
one-part n false true u s5 s4 m s2 s1 x x8 x7 y x5 x4 z x2 x1 a b c d e f = cc
one-part n false false u true s4 m s2 s1 x x8 x7 y x5 x4 z x2 x1 a b c d e f = cc
one-part n false false u false true m s2 s1 x x8 x7 y x5 x4 z x2 x1 a b c d e f = cc
one-part n false false u false false m true s1 x x8 x7 y x5 x4 z x2 x1 a b c d e f = cc
one-part n false false u false false m false true x x8 x7 y x5 x4 z x2 x1 a b c d e f = cc
one-part true false false u false false m false false x x8 x7 y x5 x4 z x2 x1 a b c d e f = omega arith
one-part false false false true false false m false false x x8 x7 y x5 x4 z x2 x1 a b c d e f = refl
one-part false false false false false false true false false x x8 x7 y x5 x4 z x2 x1 a b c d e f = refl
one-part false false false false false false false false false x x8 x7 y x5 x4 z x2 x1 a b c d e f = refl

same-choice : (a b c d e f : Bool) (x y z : ℕ) → a ≡ d → b ≡ e → c ≡ f → (if a then x else (if b then y else (if c then z else 0))) ≡ (if d then x else (if e then y else (if f then z else 0)))
same-choice a b c d e f x y z p q r = λ j. if p j then x else (if q j then y else (if r j then z else 0))

hour-shown : (a b c : Bool) → IsTrue (if a then not (b || c) else (b && c)) → IsTrue (a || (b && c))
hour-shown true b c h = refl
hour-shown false b c h = h

both-true : (a b : Bool) → IsTrue a → IsTrue b → IsTrue (a && b)
both-true true b h k = k
both-true false b h k = cc

pub time-shown : (items : List Item) (f : Fields) → AreMarks items f → IsTrue (is_clock f.shown.marks) → IsTrue (shows_time items)
time-shown items f are shape =
    let m = clock-marks f.shown.marks shape in
    let hour : IsTrue (shows_hour items) = subst IsTrue (λ j. are Hour j || (are Hour12 j && are Period j)) (hour-shown (mark_of Hour f.shown.marks) (mark_of Hour12 f.shown.marks) (mark_of Period f.shown.marks) m.hour) in
    let minute = subst IsTrue (λ j. are Minute j || not (are Second j)) m.minute in
    let parts : shows_subsecond items ≡ shows_part f.shown.marks =
    some-part (any_shows Nanosecond items) (any_shows Subsecond8 items) (any_shows Subsecond7 items) (any_shows Microsecond items) (any_shows Subsecond5 items) (any_shows Subsecond4 items) (any_shows Millisecond items) (any_shows Subsecond2 items) (any_shows Subsecond1 items)
    (sym (are Subsecond8) ∙ m.part_8) (sym (are Subsecond7) ∙ m.part_7) (sym (are Subsecond5) ∙ m.part_5) (sym (are Subsecond4) ∙ m.part_4) (sym (are Subsecond2) ∙ m.part_2) (sym (are Subsecond1) ∙ m.part_1)
    ∙ sym (λ j. are Nanosecond j || (are Microsecond j || are Millisecond j)) in
    let second = subst IsTrue (λ j. are Second j || not (sym parts j)) m.second in
    both-true (shows_hour items) _ hour (both-true (any_shows Minute items || not (any_shows Second items)) _ minute second)

-- The hour of the items is the hour of the time of day.
half-hour : (h x y : ℕ) → h ≤ 23 → x ≡ (h + 11) % 12 + 1 → y ≡ h / 12 → x % 12 + y * 12 ≡ h
half-hour h x y low a b = omega (arith, a, b)

hour-least : (t : ℕ) → IsTime t → hour_of t ≤ 23
hour-least t time = let below = time.below_day in omega arith

hour-is : (b : Bool) (x y z h : ℕ) → h ≤ 23 → (IsTrue b → x ≡ h) → (b ≡ false → (y ≡ (h + 11) % 12 + 1) × (z ≡ h / 12)) → (if b then x else y % 12 + z * 12) ≡ h
hour-is true x y z h low one half = one refl
hour-is false x y z h low one half = let both = half refl in half-hour h y z low both.0 both.1

pub time-of : (items : List Item) (f : Fields) (t : ℕ) → AreMarks items f → IsTimeOfFields f t → time_in items (λ c. number_at c f) ≡ t
time-of items f t are is =
    let m = clock-marks f.shown.marks is.shape in
    let at = λ (c : Component). number_at c f in
    let hour : hour_in items at ≡ hour_of t =
    hour-is (any_shows Hour items) (at Hour) (at Hour12) (at Period) (hour_of t) (hour-least t is.time) (λ h. is.hour.hour (are Hour ∙ h)) (λ e. is.hour.hour12 (are Hour ∙ e)) in
    let part : nanosecond_in items at ≡ nanosecond_of t =
    one-part (any_shows Nanosecond items) (any_shows Subsecond8 items) (any_shows Subsecond7 items) (any_shows Microsecond items) (any_shows Subsecond5 items) (any_shows Subsecond4 items) (any_shows Millisecond items) (any_shows Subsecond2 items) (any_shows Subsecond1 items)
    (at Nanosecond) _ _ (at Microsecond * 1_000) _ _ (at Millisecond * 1_000_000) _ _
    (sym (are Subsecond8) ∙ m.part_8) (sym (are Subsecond7) ∙ m.part_7) (sym (are Subsecond5) ∙ m.part_5) (sym (are Subsecond4) ∙ m.part_4) (sym (are Subsecond2) ∙ m.part_2) (sym (are Subsecond1) ∙ m.part_1)
    ∙ same-choice (any_shows Nanosecond items) (any_shows Microsecond items) (any_shows Millisecond items) (mark_of Nanosecond f.shown.marks) (mark_of Microsecond f.shown.marks) (mark_of Millisecond f.shown.marks)
    (at Nanosecond) (at Microsecond * 1_000) (at Millisecond * 1_000_000) (sym (are Nanosecond)) (sym (are Microsecond)) (sym (are Millisecond))
    ∙ is.nanosecond in
    (λ j. time_of (hour j) (is.minute j) (is.second j) (part j)) ∙ time-parts t is.time

-- ---- moments
not-of : (b : Bool) → IsTrue (not b) → b ≡ false
not-of true h = cc
not-of false h = refl

in-choice : {A : Type 0} (b : Bool) (x y z : A) → IsTrue b → z ≡ x → z ≡ (if b then x else y)
in-choice true x y z h e = e
in-choice false x y z h e = cc

no-offset : (low : ℕ) (items : List Item) → IsTrue (show_within low 28 items) → shows_offset items ≡ false
no-offset low items h = no-first (any_shows OffsetSign items) _ (none-shown low 28 OffsetSign items h past)
  where
    past : IsTrue (is_within low 28 OffsetSign) → ⊥
    past k = grind (arith, nat_tests)

no-date : (items : List Item) → IsTrue (are_time_items items) → shows_date items ≡ false
no-date items h = none (shows_calendar_date items) (shows_ordinal_date items) (shows_iso_week_date items) (no-first (shows_year items) _ year) (no-first (shows_year items) _ year)
    (no-first (any_shows IsoYear items) _ (none-shown 14 28 IsoYear items h (λ k. cc)))
  where
    year : shows_year items ≡ false
    year = no-year (any_shows Year items) (any_shows Century items) (any_shows YearOfCentury items) (none-shown 14 28 Year items h (λ k. cc)) (none-shown 14 28 Century items h (λ k. cc))

    none : (a b c : Bool) → a ≡ false → b ≡ false → c ≡ false → (a || (b || c)) ≡ false
    none true b c d e f = cc
    none false true c d e f = cc
    none false false c d e f = f

no-date-of : (items : List Item) (f : Fields) → shows_date items ≡ false → IsDateOf items (λ c. number_at c f) 0
no-date-of items f e =
    let none = neither-shown (shows_calendar_date items) (shows_ordinal_date items || shows_iso_week_date items) e in
    let others = neither-shown (shows_ordinal_date items) (shows_iso_week_date items) none.1 in
    record {
      calendar = λ h. absurd (clash (shows_calendar_date items) h none.0);
      ordinal = λ _ h. absurd (clash (shows_ordinal_date items) h others.0);
      week = λ _ _ h. absurd (clash (shows_iso_week_date items) h others.1);
      none = λ _. refl;
    }

clock-agrees : (items : List Item) (f : Fields) (t : ℕ) → AreMarks items f → IsTrue (are_time_items items) → IsTimeOfFields f t → (c : Component) → IsTrue (any_shows c items) → Agrees c f (moment_of_time t)
clock-agrees items f t are within is c h = time-agrees c f (moment_of_time t) is (clock-marks f.shown.marks is.shape) (are c ∙ h) (shown-within 14 28 c items within h)

pub one-time : (items : List Item) (f : Fields) (text : List ℕ) (t : ℕ) → IsScanned items f text → AreMarks items f → IsTrue (are_apart items) → IsTrue (are_time_items items) → IsTimeOfFields f t
    → IsOneTime items t text
one-time items f text t read are apart within is =
    let v = moment_of_time t in
    let shown = time-shown items f are is.shape in
    let determines : DeterminesTime items = (apart, within, shown) in
    let plain = no-timestamp 28 14 items (omega arith) within in
    let own : t ≡ time_in items (λ c. number_at c f) = sym (time-of items f t are is) in
    let value : IsMomentOf items (λ c. number_at c f) v = record {
      in_range = record { date = lit≤ tt; time = is.time; offset = record { magnitude = lit≤ tt } };
      timestamp = λ h. absurd (clash (shows_timestamp items) h (not-of (shows_timestamp items) plain));
      date = λ _. no-date-of items f (no-date items within);
      time = λ _. in-choice (shows_time items) (time_in items (λ c. number_at c f)) 0 t shown own;
      offset = other-choice (shows_offset items) _ (pos 0) (no-offset 14 items within);
    } in
    let printed = read-printed items f text v read value (all-agree items f v (clock-agrees items f t are within is)) in
    record {
      determines = determines;
      time = is.time;
      holds = printed.parts;
      text_is = printed.text_is;
      every = λ u time holds e.
          let held = held-read items f text (moment_of_time u) read apart (moments.time-holds items u determines time holds) e in
          held.time plain ∙ sym (first-choice (shows_time items) (time_in items (λ c. number_at c f)) 0 shown) ∙ sym own;
    }

-- Components of a date come before those of a time of day.
early-or-late : (c : Component) → IsTrue (is_within 0 28 c) → IsTrue (is_within 0 14 c || is_within 14 28 c)
early-or-late c h = grind (arith, nat_tests)

pair-agrees : (items : List Item) (f : Fields) (v : Moment) → AreMarks items f → IsTrue (are_date_time_items items) → IsDateOfFields f v.date → IsTimeOfFields f v.time → (c : Component) → IsTrue (any_shows c items)
    → Agrees c f v
pair-agrees items f v are within date time c h =
    elim (either_test (is_within 0 14 c) (is_within 14 28 c) (early-or-late c (shown-within 0 28 c items within h))) as (λ _. Agrees c f v) [
      | inl early ↦ date-agrees c f v date (are c ∙ h) early
      | inr late ↦ time-agrees c f v time (clock-marks f.shown.marks time.shape) (are c ∙ h) late
    ]

pub one-pair : (items : List Item) (f : Fields) (text : List ℕ) (n t : ℕ) → IsScanned items f text → AreMarks items f → IsTrue (are_apart items) → IsTrue (are_date_time_items items) → IsDateOfFields f n → IsTimeOfFields f t
    → IsOnePair items (date_time n t) text
one-pair items f text n t read are apart within day time =
    let z = date_time n t in
    let v = moment_of_date_time z in
    let at = λ (c : Component). number_at c f in
    let shows = date-shown items f are day.numbered.shape in
    let shown = time-shown items f are time.shape in
    let determines : DeterminesDateTime items = (apart, within, shows, shown) in
    let plain = no-timestamp 28 0 items (omega arith) within in
    let below = time.time.below_day in
    let d : date_at z ≡ n = date_at-date_time n t below in
    let s : time_at z ≡ t = time_at-date_time n t below in
    let date : IsDateOfFields f (date_at z) = subst (IsDateOfFields f) (sym d) day in
    let clock : IsTimeOfFields f (time_at z) = subst (IsTimeOfFields f) (sym s) time in
    let own : time_at z ≡ time_in items at = sym (time-of items f (time_at z) are clock) in
    let value : IsMomentOf items at v = record {
      in_range = record { date = date.numbered.date; time = clock.time; offset = record { magnitude = lit≤ tt } };
      timestamp = λ h. absurd (clash (shows_timestamp items) h (not-of (shows_timestamp items) plain));
      date = λ _. date-of items f (date_at z) are date.numbered;
      time = λ _. in-choice (shows_time items) (time_in items at) 0 (time_at z) shown own;
      offset = other-choice (shows_offset items) _ (pos 0) (no-offset 0 items within);
    } in
    let printed = read-printed items f text v read value (all-agree items f v (pair-agrees items f v are within date clock)) in
    record {
      determines = determines;
      range = IsDateTime-date_time n t day.numbered.date below;
      held = printed.numbers;
      holds = printed.parts;
      text_is = printed.text_is;
      every = λ y range held holds e.
          let found = held-read items f text (moment_of_date_time y) read apart (moments.date_time-holds items y determines range held holds) e in
          let same : date_at y ≡ n = day.numbered.only (date_at y) found.in_range.date (has-numbers items f (date_at y) are (found.date plain)) in
          let clocks : time_at y ≡ t = found.time plain ∙ sym (first-choice (shows_time items) (time_in items at) 0 shown) ∙ sym own ∙ s in
          sym (date_time-parts y range) ∙ (λ j. date_time (same j) (clocks j));
    }
