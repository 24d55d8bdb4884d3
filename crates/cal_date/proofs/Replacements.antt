-- The ordinals of a month and a day of the month in two years.
use Rattle.std.proofs.Common.{◌≡◌, ◌≢◌, ◌⊎◌, inl, inr, refl, sym, ap, subst, ◌∙◌, ℕ, ◌+◌, ◌-◌, ◌<◌, ◌≤◌, true, false, arith, ℤ, ◌↔◌, to_z, of_z, w32, if◌then◌else◌}
use Rattle.std.proofs.lemmas.Bool.Decides.{nat_tests}
use Rattle.std.proofs.lemmas.Bool.{cases_Bool}
use mir.Val.{bool_byte}
use Rattle.cal_units.specs.Lengths.{is_leap_year, days_in_month}
use Rattle.cal_units.specs.ComponentError.{FailsWith}
use Rattle.cal_units.specs.declared.error.ComponentRange.{ComponentRange}
use Rattle.std.specs.Prelude.{Result, Ok, Err, IfErr}
use Rattle.cal_date.specs.Date.{year_at, month_at, day_of_month_at, ordinal_at, IsDate, IsYear, IsOrdinal, IsDayOfMonth, HasCalendarDate}
use Rattle.cal_date.specs.CountLaws.{days_of_months}
use Rattle.cal_date.specs.PackedDate.{leap_mark, ordinal_number}
use Rattle.cal_date.proofs.Dates.{IsDate-ordinal_number, IsYear-i32, in_range}
use Rattle.cal_date.proofs.Calendar.{ordinal_in, IsInMonthOf, in_month_of, stands_at, calendar_in_range, IsOrdinal-ordinal_in}
use Rattle.cal_date.proofs.Months.{each_month}
use Rattle.std.proofs.lemmas.Int.{ints}

-- The month with index i: the days before it and its length.
record IsMonthAt (y : ℤ) (i : ℕ) : Type 0 where
  january : i ≡ 0 → (days_of_months y i ≡ 0) × (days_in_month y (i + 1) ≡ 31)
  february : i ≡ 1 → (days_of_months y i ≡ 31) × (days_in_month y (i + 1) ≡ (if is_leap_year y then 29 else 28))
  march_on : 2 ≤ i → (if is_leap_year y then 60 else 59) ≤ days_of_months y i

month_at_index : (y : ℤ) (i : ℕ) → i < 12 → IsMonthAt y i
unfolding days_of_months days_in_month
month_at_index y i low =
    each_month (λ m. IsMonthAt y m)
    (record { january = λ e. grind (arith, nat_tests); february = λ e. grind (arith, nat_tests); march_on = λ h. grind (arith, nat_tests) })
    (record { january = λ e. grind (arith, nat_tests); february = λ e. grind (arith, nat_tests); march_on = λ h. grind (arith, nat_tests) })
    (record { january = λ e. grind (arith, nat_tests); february = λ e. grind (arith, nat_tests); march_on = λ h. grind (arith, nat_tests) })
    (record { january = λ e. grind (arith, nat_tests); february = λ e. grind (arith, nat_tests); march_on = λ h. grind (arith, nat_tests) })
    (record { january = λ e. grind (arith, nat_tests); february = λ e. grind (arith, nat_tests); march_on = λ h. grind (arith, nat_tests) })
    (record { january = λ e. grind (arith, nat_tests); february = λ e. grind (arith, nat_tests); march_on = λ h. grind (arith, nat_tests) })
    (record { january = λ e. grind (arith, nat_tests); february = λ e. grind (arith, nat_tests); march_on = λ h. grind (arith, nat_tests) })
    (record { january = λ e. grind (arith, nat_tests); february = λ e. grind (arith, nat_tests); march_on = λ h. grind (arith, nat_tests) })
    (record { january = λ e. grind (arith, nat_tests); february = λ e. grind (arith, nat_tests); march_on = λ h. grind (arith, nat_tests) })
    (record { january = λ e. grind (arith, nat_tests); february = λ e. grind (arith, nat_tests); march_on = λ h. grind (arith, nat_tests) })
    (record { january = λ e. grind (arith, nat_tests); february = λ e. grind (arith, nat_tests); march_on = λ h. grind (arith, nat_tests) })
    (record { january = λ e. grind (arith, nat_tests); february = λ e. grind (arith, nat_tests); march_on = λ h. grind (arith, nat_tests) })
    i low

-- From March on the months of two years differ only by the leap days.
record IsShifted (y z : ℤ) (i : ℕ) : Type 0 where
  same : is_leap_year y ≡ is_leap_year z → days_of_months z i ≡ days_of_months y i
  later : is_leap_year y ≡ false → is_leap_year z ≡ true → 2 ≤ i → days_of_months z i ≡ days_of_months y i + 1
  length : i ≢ 1 → days_in_month z (i + 1) ≡ days_in_month y (i + 1)

shifted : (y z : ℤ) (i : ℕ) → i < 12 → IsShifted y z i
unfolding days_of_months days_in_month
shifted y z i low =
    each_month (λ m. IsShifted y z m)
    (record { same = λ e. grind (arith, nat_tests); later = λ e f h. grind (arith, nat_tests); length = λ h. grind (arith, nat_tests) })
    (record { same = λ e. grind (arith, nat_tests); later = λ e f h. grind (arith, nat_tests); length = λ h. grind (arith, nat_tests) })
    (record { same = λ e. grind (arith, nat_tests); later = λ e f h. grind (arith, nat_tests); length = λ h. grind (arith, nat_tests) })
    (record { same = λ e. grind (arith, nat_tests); later = λ e f h. grind (arith, nat_tests); length = λ h. grind (arith, nat_tests) })
    (record { same = λ e. grind (arith, nat_tests); later = λ e f h. grind (arith, nat_tests); length = λ h. grind (arith, nat_tests) })
    (record { same = λ e. grind (arith, nat_tests); later = λ e f h. grind (arith, nat_tests); length = λ h. grind (arith, nat_tests) })
    (record { same = λ e. grind (arith, nat_tests); later = λ e f h. grind (arith, nat_tests); length = λ h. grind (arith, nat_tests) })
    (record { same = λ e. grind (arith, nat_tests); later = λ e f h. grind (arith, nat_tests); length = λ h. grind (arith, nat_tests) })
    (record { same = λ e. grind (arith, nat_tests); later = λ e f h. grind (arith, nat_tests); length = λ h. grind (arith, nat_tests) })
    (record { same = λ e. grind (arith, nat_tests); later = λ e f h. grind (arith, nat_tests); length = λ h. grind (arith, nat_tests) })
    (record { same = λ e. grind (arith, nat_tests); later = λ e f h. grind (arith, nat_tests); length = λ h. grind (arith, nat_tests) })
    (record { same = λ e. grind (arith, nat_tests); later = λ e f h. grind (arith, nat_tests); length = λ h. grind (arith, nat_tests) })
    i low

-- The month with index i has the day d in year z, and p is the ordinal of this day.
pub record IsOrdinalIn (z : ℤ) (i d p : ℕ) : Type 0 where
  pub day : IsDayOfMonth z (i + 1) d
  pub ordinal_is : ordinal_in z i d ≡ p

pub same_mark : (y z : ℤ) (i d : ℕ) → i < 12 → IsDayOfMonth y (i + 1) d → is_leap_year y ≡ is_leap_year z → IsOrdinalIn z i d (ordinal_in y i d)
unfolding days_in_month
same_mark y z i d low h e =
    let other = shifted y z i low in
    let before = other.same e in
    record { day = grind (arith, nat_tests); ordinal_is = omega arith }

pub up_to_february : (y z : ℤ) (i d : ℕ) → i < 12 → IsDayOfMonth y (i + 1) d → ordinal_in y i d < 60 → IsOrdinalIn z i d (ordinal_in y i d)
up_to_february y z i d low h early =
    let here = month_at_index y i low in
    let there = month_at_index z i low in
    let other = shifted y z i low in
    record { day = grind (arith, nat_tests); ordinal_is = grind (arith, nat_tests) }

pub one_later : (y z : ℤ) (i d : ℕ) → i < 12 → IsDayOfMonth y (i + 1) d → 60 ≤ ordinal_in y i d → is_leap_year y ≡ false → is_leap_year z ≡ true
    → IsOrdinalIn z i d (ordinal_in y i d + 1)
one_later y z i d low h late common leap =
    let here = month_at_index y i low in
    let there = month_at_index z i low in
    let other = shifted y z i low in
    record { day = grind (arith, nat_tests); ordinal_is = grind (arith, nat_tests) }

pub one_earlier : (y z : ℤ) (i d : ℕ) → i < 12 → IsDayOfMonth y (i + 1) d → 60 < ordinal_in y i d → is_leap_year y ≡ true → is_leap_year z ≡ false
    → IsOrdinalIn z i d (ordinal_in y i d - 1)
one_earlier y z i d low h late leap common =
    let here = month_at_index y i low in
    let there = month_at_index z i low in
    let other = shifted z y i low in
    record { day = grind (arith, nat_tests); ordinal_is = grind (arith, nat_tests) }

-- The 60th day of a leap year has no counterpart in a common year.
pub leap_day : (y z : ℤ) (i d : ℕ) → i < 12 → IsDayOfMonth y (i + 1) d → ordinal_in y i d ≡ 60 → is_leap_year y ≡ true → is_leap_year z ≡ false
    → ¬ IsDayOfMonth z (i + 1) d
leap_day y z i d low h e leap common day =
    let here = month_at_index y i low in
    let there = month_at_index z i low in
    absurd (grind (arith, nat_tests))

-- p is the ordinal in year z of the month and the day of the month of day n.
pub record IsReplaced (z : ℤ) (n p : ℕ) : Type 0 where
  pub day : IsDayOfMonth z (month_at n) (day_of_month_at n)
  pub ordinal_is : p ≡ days_of_months z (month_at n - 1) + day_of_month_at n

replaced : (z : ℤ) (n p : ℕ) (at : IsInMonthOf n) → IsOrdinalIn z at.months (day_of_month_at n) p → IsReplaced z n p
replaced z n p at is =
    let months : at.months ≡ month_at n - 1 = omega (arith, at.month_is) in
    record {
      day = subst (λ m. IsDayOfMonth z m (day_of_month_at n)) (sym at.month_is) is.day;
      ordinal_is = sym is.ordinal_is ∙ ap (λ k. days_of_months z k + day_of_month_at n) months;
    }

pub replaced-same : (z : ℤ) (n : ℕ) → (is_leap_year (year_at n) ≡ is_leap_year z) ⊎ (ordinal_at n < 60) → IsReplaced z n (ordinal_at n)
replaced-same z n either =
    let at = in_month_of n in
    let y = year_at n in
    let d = day_of_month_at n in
    let is : IsOrdinalIn z at.months d (ordinal_in y at.months d) =
    elim either as (λ _. IsOrdinalIn z at.months d (ordinal_in y at.months d)) [
      | inl alike ↦ same_mark y z at.months d at.stands.month at.stands.day alike
      | inr early ↦ up_to_february y z at.months d at.stands.month at.stands.day (subst (λ o. o < 60) at.stands.ordinal_is early)
    ] in
    subst (IsReplaced z n) (sym at.stands.ordinal_is) (replaced z n (ordinal_in y at.months d) at is)

pub replaced-later : (z : ℤ) (n : ℕ) → 60 ≤ ordinal_at n → is_leap_year (year_at n) ≡ false → is_leap_year z ≡ true → IsReplaced z n (ordinal_at n + 1)
replaced-later z n late common leap =
    let at = in_month_of n in
    let y = year_at n in
    let d = day_of_month_at n in
    let is = one_later y z at.months d at.stands.month at.stands.day (subst (λ o. 60 ≤ o) at.stands.ordinal_is late) common leap in
    subst (λ o. IsReplaced z n (o + 1)) (sym at.stands.ordinal_is) (replaced z n (ordinal_in y at.months d + 1) at is)

pub replaced-earlier : (z : ℤ) (n : ℕ) → 60 < ordinal_at n → is_leap_year (year_at n) ≡ true → is_leap_year z ≡ false → IsReplaced z n (ordinal_at n - 1)
replaced-earlier z n late leap common =
    let at = in_month_of n in
    let y = year_at n in
    let d = day_of_month_at n in
    let is = one_earlier y z at.months d at.stands.month at.stands.day (subst (λ o. 60 < o) at.stands.ordinal_is late) leap common in
    subst (λ o. IsReplaced z n (o - 1)) (sym at.stands.ordinal_is) (replaced z n (ordinal_in y at.months d - 1) at is)

pub not_replaced : (z : ℤ) (n : ℕ) → ordinal_at n ≡ 60 → is_leap_year (year_at n) ≡ true → is_leap_year z ≡ false → ¬ IsDayOfMonth z (month_at n) (day_of_month_at n)
not_replaced z n e leap common day =
    let at = in_month_of n in
    leap_day (year_at n) z at.months (day_of_month_at n) at.stands.month at.stands.day (sym at.stands.ordinal_is ∙ e) leap common
    (subst (λ m. IsDayOfMonth z m (day_of_month_at n)) at.month_is day)

-- From March on the ordinals of a leap year are one higher. In other years there is no 29 February.
pub replaced-moved : (z : ℤ) (n a b : ℕ) → 60 ≤ ordinal_at n → a ≡ bool_byte (is_leap_year z) → b ≡ bool_byte (is_leap_year (year_at n))
    → (leap_mark (year_at n) + ordinal_at n ≡ 572 → is_leap_year z ≡ true) → IsReplaced z n (ordinal_at n + a - b)
replaced-moved z n a b late after before leap_day_kept =
    elim (cases_Bool (is_leap_year z)) as (λ _. IsReplaced z n (ordinal_at n + a - b)) [
      | inl leap ↦ elim (cases_Bool (is_leap_year (year_at n))) as (λ _. IsReplaced z n (ordinal_at n + a - b)) [
        | inl was ↦ moved_to (omega (arith, after ∙ ap bool_byte leap, before ∙ ap bool_byte was)) (replaced-same z n (inl (was ∙ sym leap)))
        | inr common ↦ moved_to (omega (arith, after ∙ ap bool_byte leap, before ∙ ap bool_byte common)) (replaced-later z n late common leap)
      ]
      | inr common ↦ elim (cases_Bool (is_leap_year (year_at n))) as (λ _. IsReplaced z n (ordinal_at n + a - b)) [
        | inl was ↦
            let past : 60 < ordinal_at n = past_leap_day was common in
            moved_to (omega (arith, after ∙ ap bool_byte common, before ∙ ap bool_byte was)) (replaced-earlier z n past was common)
        | inr before_too ↦ moved_to (omega (arith, after ∙ ap bool_byte common, before ∙ ap bool_byte before_too)) (replaced-same z n (inl (before_too ∙ sym common)))
      ]
    ]
  where
    moved_to : {p : ℕ} → p ≡ ordinal_at n + a - b → IsReplaced z n p → IsReplaced z n (ordinal_at n + a - b)
    moved_to e is = subst (IsReplaced z n) e is

    past_leap_day : is_leap_year (year_at n) ≡ true → is_leap_year z ≡ false → 60 < ordinal_at n
    past_leap_day was common = grind (arith, nat_tests)

-- The low bits of 29 February.
pub leap_day_marked : (n : ℕ) → leap_mark (year_at n) + ordinal_at n ≡ 572 → ordinal_at n ≤ 366 → (is_leap_year (year_at n) ≡ true) × (ordinal_at n ≡ 60)
leap_day_marked n e most = (grind (arith, nat_tests), grind (arith, nat_tests))

-- The year has this ordinal, and its day is the only day with this month and day of the month.
pub record IsReplacement (z : ℤ) (n p : ℕ) : Type 0 where
  pub ordinal : IsOrdinal z p
  pub in_range : IsDate (ordinal_number z p)
  pub has : HasCalendarDate z (month_at n) (day_of_month_at n) (ordinal_number z p)
  pub only : (k : ℕ) → IsDate k → HasCalendarDate z (month_at n) (day_of_month_at n) k → k ≡ ordinal_number z p

pub replacement : (z : ℤ) (n p : ℕ) → IsYear z → IsReplaced z n p → IsReplacement z n p
replacement z n p h is =
    let at = in_month_of n in
    let d = day_of_month_at n in
    let months : month_at n - 1 ≡ at.months = omega (arith, at.month_is) in
    let day : IsDayOfMonth z (at.months + 1) d = subst (λ m. IsDayOfMonth z m d) at.month_is is.day in
    let there : p ≡ ordinal_in z at.months d = is.ordinal_is ∙ ap (λ k. days_of_months z k + d) months in
    let ordinal = IsOrdinal-ordinal_in z at.months d h.0 at.stands.month day in
    let here = stands_at z at.months d h.0 at.stands.month day in
    record {
      ordinal = subst (IsOrdinal z) (sym there) ordinal;
      in_range = subst (λ o. IsDate (ordinal_number z o)) (sym there) (IsDate-ordinal_number z (ordinal_in z at.months d) h ordinal);
      has = subst (λ o. HasCalendarDate z (month_at n) d (ordinal_number z o)) (sym there)
          (subst (λ m. HasCalendarDate z m d (ordinal_number z (ordinal_in z at.months d))) (sym at.month_is) here.has);
      only = λ k f has. (calendar_in_range k z at.months d f (subst (λ m. HasCalendarDate z m d k) at.month_is has)).number_is ∙ ap (ordinal_number z) (sym there);
    }

-- A day with this month and day of the month is in a year of the range, and its month has the day.
pub record IsReplaceable (z : ℤ) (n : ℕ) : Type 0 where
  pub year : IsYear z
  pub day : IsDayOfMonth z (month_at n) (day_of_month_at n)

pub replaceable : (z : ℤ) (n k : ℕ) → IsDate k → HasCalendarDate z (month_at n) (day_of_month_at n) k → IsReplaceable z n
replaceable z n k f has =
    let at = in_month_of n in
    let d = day_of_month_at n in
    let is = calendar_in_range k z at.months d f (subst (λ m. HasCalendarDate z m d k) at.month_is has) in
    record { year = is.year; day = subst (λ m. IsDayOfMonth z m d) (sym at.month_is) is.day }

-- If an error has one of two reasons, and not the first, it has the second.
pub other_reason : {V : Type 0} (r : Result V ComponentRange) (a b : ComponentRange) → IfErr r (λ e. (e ≡ a) ⊎ (e ≡ b)) → ¬ (FailsWith a r) → IfErr r (λ e. e ≡ b)
other_reason (Ok v) a b h other = h
other_reason (Err e) a b h other = elim h [ inl one ↦ absurd (other one) | inr is ↦ is ]

-- The year of a date fits in an i32.
pub record IsYearKept (n : ℕ) (y : ℤ) : Type 0 where
  pub year : IsYear (year_at n)
  pub same : to_z w32 (of_z w32 y) ≡ year_at n

pub year_kept : (n : ℕ) (y : ℤ) → IsDate n → y ≡ year_at n → IsYearKept n y
year_kept n y h e =
    let at = in_range n _ _ h (refl, refl) in
    record { year = at.year; same = ap (λ z. to_z w32 (of_z w32 z)) e ∙ IsYear-i32 _ at.year }

-- If one of two causes is known, the other decides.
pub cause_left : {R A B : Type 0} → A → R ↔ A × (¬ B) → R ↔ ¬ B
cause_left a both = (λ r. (both.0 r).1, λ b. both.1 (a, b))

pub ruleset parts_kept = (year_kept, IsYear-i32, in_range, cause_left, other_reason, ints, nat_tests)
