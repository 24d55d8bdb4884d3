-- The day of the range that passes a test, if a constructor of dates has found it, or found none.
use Rattle.std.proofs.Common.{◌≡◌, ℕ, zero, suc, ◌+◌, ◌<◌, Bool, true, false, Some, None, Result, Ok, Err, [], ◌∷◌, refl, sym, ap, ◌∙◌, arith, inl, inr, ℤ, pos, negsuc, ◌+ℤ◌, Decides}
use Rattle.std.specs.Ordering.{int_eq}
use Rattle.std.specs.Cmp.Lexicographic.{pointwise}
use Rattle.std.proofs.lemmas.Bool.{cases_Bool, cases_lt, false_from_ne_true}
use Rattle.std.proofs.lemmas.Bool.Decides.{nat_tests}
use Rattle.std.proofs.lemmas.Int.{ints}
use Rattle.cal_time.specs.declared.Month.{Month}
use Rattle.cal_time.specs.Month.{number}
use Rattle.cal_time.specs.MonthCycle.{index-below}
use Rattle.cal_time.specs.CalendarDay.{calendar_day}
use Rattle.cal_time.specs.Date.{IsDate, first_julian_day, last_day, IsYear, NoDate, HasJulianDay, HasOrdinalDate, HasCalendarDate, julian_day_at, year_at, month_at, day_of_month_at}
use Rattle.cal_time.specs.IsoWeekDate.{IsWeek, HasIsoWeekDate}
use Rattle.cal_time.specs.Arithmetic.{IsDateNumber, clamped_date}
use Rattle.cal_time.specs.Order.{ordinal_date_at, calendar_date_at, iso_week_date_at}
use Rattle.caltool.specs.Answers.{first_below, first_day_where, day_with, julian_day_list, is_year, is_month, is_week}

-- one more day, which is the first to pass, or comes after the first, or does not pass
first_below-found : (test : ℕ → Bool) (n day : ℕ) → first_below test n ≡ Some day → first_below test (suc n) ≡ Some day
unfolding first_below
first_below-found test n day e = rw e refl

first_below-passes : (test : ℕ → Bool) (n : ℕ) → first_below test n ≡ None → test n ≡ true
    → first_below test (suc n) ≡ Some n
unfolding first_below
first_below-passes test n e p = rw (e, p) refl

first_below-fails : (test : ℕ → Bool) (n : ℕ) → first_below test n ≡ None → test n ≡ false
    → first_below test (suc n) ≡ None
unfolding first_below
first_below-fails test n e p = rw (e, p) refl

-- If no day passes, none is found.
pub first_below-none : (test : ℕ → Bool) (n : ℕ) → ((m : ℕ) → m < n → test m ≡ false) → first_below test n ≡ None
first_below-none test zero fails = unfold first_below in refl
first_below-none test (suc n) fails =
    first_below-fails test n (first_below-none test n (λ m h. fails m (omega arith))) (fails n (omega arith))

-- the only one that passes is found
pub first_below-only : (test : ℕ → Bool) (n day : ℕ) → day < n → test day ≡ true
    → ((m : ℕ) → m < n → test m ≡ true → m ≡ day) → first_below test n ≡ Some day
first_below-only test zero day h p only = absurd (omega arith)
first_below-only test (suc n) day h p only = elim (cases_lt day n) [
  | inl before ↦ first_below-found test n day (first_below-only test n day before p (λ m l q. only m (omega arith) q))
  | inr last ↦
      let same : day ≡ n = omega arith in
      let none : first_below test n ≡ None = first_below-none test n (λ m l. elim (cases_Bool (test m)) [
        | inl q ↦ absurd (let e : m ≡ day = only m (omega arith) q in omega arith)
        | inr q ↦ q
      ]) in
      rw same (first_below-passes test n none (rw (← same) p))
]

module _ (Has : ℕ → Type 0) (test : ℕ → Bool) (decides : (n : ℕ) → Decides (test n) (Has n)) where
  -- the day that has it, if no other has it
  pub first_day_where-has : (day : ℕ) → IsDate day → Has day → ((n : ℕ) → IsDate n → Has n → n ≡ day) → first_day_where test ≡ Some day
  first_day_where-has day h has only =
      first_below-only test (last_day + 1) day (omega arith) ((decides day).1 has) (λ n l p. only n (omega arith) ((decides n).0 p))

  -- none, if no day has it
  pub first_day_where-none : NoDate Has → first_day_where test ≡ None
  first_day_where-none none = first_below-none test (last_day + 1) (λ n l. false_from_ne_true (test n) (λ p. none n (omega arith) ((decides n).0 p)))

  -- what a constructor of dates answers: the day, as each day that has it is that one
  pub found : {E : Type 0} (day : ℕ) → ((n : ℕ) → IsDate n → Has n → ◌≡◌ {A = Result ℕ E} (Ok day) (Ok n)) → IsDate day × Has day → first_day_where test ≡ Some day
  found day every has = first_day_where-has day has.0 has.1 (λ n h f. let e = every n h f in cc)

  -- or an error, so no day has it
  pub refused : {E : Type 0} (error : E) → ((n : ℕ) → IsDate n → Has n → ◌≡◌ {A = Result ℕ E} (Err error) (Ok n)) → NoDate Has × (first_day_where test ≡ None)
  refused error every =
      let none : NoDate Has = λ n h f. let e = every n h f in cc in
      (none, first_day_where-none none)

-- whether a day has these numbers
pub decides_julian_day : (j : ℤ) (n : ℕ) → Decides (pointwise int_eq (julian_day_list n) (j ∷ [])) (HasJulianDay j n)
decides_julian_day j n = (λ p. grind (arith, ints), λ e. grind (arith, ints))

pub decides_ordinal_date : (y : ℤ) (o n : ℕ)
    → Decides (pointwise int_eq (ordinal_date_at n) (y ∷ pos o ∷ [])) (HasOrdinalDate y o n)
decides_ordinal_date y o n = (λ p. (grind (arith, ints), grind (arith, ints)), λ e. grind (arith, ints))

same_parts : (y z : ℤ) (m n d e : ℕ) → y ≡ z → m ≡ n → d ≡ e → calendar_day y m d ≡ calendar_day z n e
same_parts y z m n d e p q r = rw (p, q, r) refl

pub decides_calendar_date : (y : ℤ) (m d n : ℕ)
    → Decides (pointwise int_eq (calendar_date_at n) (y ∷ pos m ∷ pos d ∷ [])) (HasCalendarDate y m d n)
decides_calendar_date y m d n = (
  λ p.
      let of_year : year_at n ≡ y = grind (arith, ints) in
      let of_month : month_at n ≡ m = grind (arith, ints) in
      let of_day : day_of_month_at n ≡ d = grind (arith, ints) in
      same_parts _ _ _ _ _ _ of_year of_month of_day,
  λ e.
      let of_year : year_at n ≡ y = ap (λ day. day.year) e in
      let of_month : month_at n ≡ m = ap (λ day. day.month) e in
      let of_day : day_of_month_at n ≡ d = ap (λ day. day.day) e in
      grind (arith, ints),
)

pub decides_iso_week_date : (y : ℤ) (w wd n : ℕ)
    → Decides (pointwise int_eq (iso_week_date_at n) (y ∷ pos w ∷ pos wd ∷ [])) (HasIsoWeekDate y w wd n)
decides_iso_week_date y w wd n = (λ p. (grind (arith, ints), grind (arith, ints), grind (arith, ints)), λ e. grind (arith, ints))

-- The nearest number of a day is the number itself, if it is in range.
clamped_date-same : (z : ℤ) → IsDateNumber z → pos (clamped_date z) ≡ z
clamped_date-same (pos n) h = grind (arith, ints)
clamped_date-same (negsuc n) h = absurd (omega (arith, ints, h.not_before))

-- A day plus w days has the Julian day plus w.
moved : (n : ℕ) (w : ℤ) → julian_day_at n +ℤ w ≡ first_julian_day +ℤ (pos n +ℤ w)
moved n w = omega (arith, ints)

pub day_with-moved : (n : ℕ) (w : ℤ) → IsDateNumber (pos n +ℤ w)
    → day_with julian_day_list ((julian_day_at n +ℤ w) ∷ []) ≡ Some (clamped_date (pos n +ℤ w))
day_with-moved n w h =
    let same : pos (clamped_date (pos n +ℤ w)) ≡ pos n +ℤ w = clamped_date-same (pos n +ℤ w) h in
    let late = h.not_after in
    first_day_where-has (HasJulianDay (julian_day_at n +ℤ w)) _ (decides_julian_day (julian_day_at n +ℤ w)) (clamped_date (pos n +ℤ w))
    (omega (arith, ints)) (ap (λ z. first_julian_day +ℤ z) same ∙ sym (moved n w)) (λ m l e. omega (arith, ints))

pub day_with-moved_away : (n : ℕ) (w : ℤ) → ¬ IsDateNumber (pos n +ℤ w)
    → day_with julian_day_list ((julian_day_at n +ℤ w) ∷ []) ≡ None
day_with-moved_away n w none =
    first_day_where-none (HasJulianDay (julian_day_at n +ℤ w)) _ (decides_julian_day (julian_day_at n +ℤ w))
    (λ m l e. none record { not_before = omega (arith, ints); not_after = omega (arith, ints) })

-- a month has the number of a month
pub number-is_month : (m : Month) → is_month (number m) ≡ true
number-is_month m = let below = index-below m in grind (arith, nat_tests)

-- whether a year has a week
pub a_week : (y : ℤ) (w : ℕ) → IsWeek y w → is_week y w ≡ true
a_week y w h = grind (arith, nat_tests)

pub not_a_week : (y : ℤ) (w : ℕ) → ¬ IsWeek y w → is_week y w ≡ false
not_a_week y w h = false_from_ne_true (is_week y w) (λ p. h (grind (arith, nat_tests), grind (arith, nat_tests)))

-- whether a year is in the range
pub a_year : (y : ℤ) → IsYear y → is_year y ≡ true
a_year y h = grind (arith, ints)

pub not_a_year : (y : ℤ) → ¬ IsYear y → is_year y ≡ false
not_a_year y h = false_from_ne_true (is_year y) (λ p. h (grind (arith, ints), grind (arith, ints)))
