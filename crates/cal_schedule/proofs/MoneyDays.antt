-- The days of leap years, in closed form.
use Rattle.std.proofs.Common.{◌≡◌, ℕ, zero, suc, ◌+◌, ◌-◌, ◌*◌, ◌/◌, ◌≤◌, refl, sym, ap, ◌∙◌, subst, arith, ℤ, pos, ◌+ℤ◌, ◌-ℤ◌, unsigned_abs, ◌⊎◌, inl, inr, true, false, if◌then◌else◌}
use Rattle.std.specs.Prelude.{not}
use Rattle.std.proofs.lemmas.Bool.{cases_lt, cases_Bool}
use Rattle.std.proofs.lemmas.Bool.Decides.{nat_tests}
use Rattle.std.proofs.lemmas.Int.{ints}
use Rattle.cal_time.specs.CalendarDay.{CalendarDay, calendar_day, day_after, is_first_of_january}
use Rattle.cal_time.specs.Date.{first_year, day_at, year_at, ordinal_at, IsDate}
use Rattle.cal_time.specs.Days.{day_at-first, day_at-suc, in_month, past_month, past_year, year_at-range}
use Rattle.cal_time.specs.IsoWeekDate.{count_before}
use Rattle.cal_time.specs.Lengths.{is_leap_year, days_in_year, days_in_month}
use Rattle.cal_time.specs.Components.{ordinals-apart, ordinals-apart_a_year}
use Rattle.cal_time.proofs.Dates.{ordinal_of_date}
use Rattle.cal_time.proofs.Weekdays.{count_before-suc}
use Rattle.cal_schedule.specs.YearFraction.{in_leap_year, in_common_year}

-- The next day is in the same year, or is 1 January of the next one.
after : (d : CalendarDay) → ((day_after d).year ≡ d.year) ⊎ (day_after d ≡ calendar_day (d.year +ℤ pos 1) 1 1)
after d =
    elim (cases_lt d.day (days_in_month d.year d.month)) as (λ _. ((day_after d).year ≡ d.year) ⊎ (day_after d ≡ calendar_day (d.year +ℤ pos 1) 1 1)) [
      | inl less ↦ inl (ap (λ c. c.year) (in_month d.year d.month d.day less))
      | inr most ↦ elim (cases_lt d.month 12) as (λ _. ((day_after d).year ≡ d.year) ⊎ (day_after d ≡ calendar_day (d.year +ℤ pos 1) 1 1)) [
        | inl low ↦ inl (ap (λ c. c.year) (past_month d.year d.month d.day most low))
        | inr high ↦ inr (past_year d.year d.month d.day most high)
      ]
    ]

step : (n : ℕ) → (year_at (suc n) ≡ year_at n) ⊎ (day_at (suc n) ≡ calendar_day (year_at n +ℤ pos 1) 1 1)
step n =
    elim (after (day_at n)) as (λ _. (year_at (suc n) ≡ year_at n) ⊎ (day_at (suc n) ≡ calendar_day (year_at n +ℤ pos 1) 1 1)) [
      | inl same ↦ inl (ap (λ c. c.year) (day_at-suc n) ∙ same)
      | inr next ↦ inr (day_at-suc n ∙ next)
    ]

-- the ordinal is 1 on 1 January
ordinal_at-first : (n : ℕ) (y : ℤ) → day_at (suc n) ≡ calendar_day y 1 1 → ordinal_at (suc n) ≡ 1
unfolding ordinal_at
ordinal_at-first n y e = ap (λ d. if is_first_of_january d then 1 else ordinal_at n + 1) e

-- The closed form for an ordinal of a year, with c days of leap years before it.
abbrev Closed : ℕ → ℤ → ℕ → Type 0
Closed c y o =
    let k = unsigned_abs (y -ℤ first_year) in
    c + 366 * (k / 100) ≡ 366 * (k / 4 + k / 400) + (if is_leap_year y then o - 1 else 0)

leap-next : (k : ℕ) → (k + 1) / 4 + (k + 1) / 400 + k / 100 ≡ k / 4 + k / 400 + (k + 1) / 100 + (if is_leap_year (first_year +ℤ pos k) then 1 else 0)
leap-next k = grind (arith, ints, nat_tests)

in_year : (c c' o o' : ℕ) (y : ℤ) → c' ≡ c + (if is_leap_year y then 1 else 0) → o' ≡ o + 1 → 1 ≤ o → Closed c y o → Closed c' y o'
in_year c c' o o' y more next some h =
    elim (cases_Bool (is_leap_year y)) [
      | inl leap ↦ let e = rw leap at more in let f = rw leap at h in rw leap (omega (arith, e, f))
      | inr not ↦ let e = rw not at more in let f = rw not at h in rw not (omega (arith, e, f))
    ]

next_year : (c c' o k : ℕ) → c' ≡ c + (if is_leap_year (first_year +ℤ pos k) then 1 else 0) → o ≡ days_in_year (first_year +ℤ pos k)
    → Closed c (first_year +ℤ pos k) o → Closed c' (first_year +ℤ pos (k + 1)) 1
next_year c c' o k more last h =
    let y = first_year +ℤ pos k in
    let here : unsigned_abs (y -ℤ first_year) ≡ k = omega (arith, ints) in
    let there : unsigned_abs ((first_year +ℤ pos (k + 1)) -ℤ first_year) ≡ k + 1 = omega (arith, ints) in
    let leaps = leap-next k in
    let none : (if is_leap_year (first_year +ℤ pos (k + 1)) then 1 - 1 else 0) ≡ 0 =
    elim (cases_Bool (is_leap_year (first_year +ℤ pos (k + 1)))) [ inl leap ↦ rw leap refl | inr not ↦ rw not refl ] in
    elim (cases_Bool (is_leap_year y)) [
      | inl leap ↦ let e = rw leap at more in let f = rw leap at h in let d = rw leap at last in let g = rw leap at leaps in omega (arith, e, f, d, g, here, there, none)
      | inr not ↦ let e = rw not at more in let f = rw not at h in let d = rw not at last in let g = rw not at leaps in omega (arith, e, f, d, g, here, there, none)
    ]

leaps_closed : (n : ℕ) → IsDate n → Closed (count_before in_leap_year n) (year_at n) (ordinal_at n)
leaps_closed zero h = subst (λ y. Closed (count_before in_leap_year 0) y (ordinal_at 0)) (sym (ap (λ c. c.year) day_at-first)) (unfold count_before in refl)
leaps_closed (suc n) h =
    let before = leaps_closed n (omega arith) in
    let more = count_before-suc in_leap_year n in
    elim (step n) as (λ _. Closed (count_before in_leap_year (suc n)) (year_at (suc n)) (ordinal_at (suc n))) [
      | inl same ↦
          let next : ordinal_at (suc n) ≡ ordinal_at n + 1 = omega (arith, ordinals-apart n (suc n) (sym same)) in
          subst (λ y. Closed (count_before in_leap_year (suc n)) y (ordinal_at (suc n))) (sym same)
          (in_year (count_before in_leap_year n) _ (ordinal_at n) _ (year_at n) more next (ordinal_of_date n).0 before)
      | inr first ↦
          let k = unsigned_abs (year_at n -ℤ first_year) in
          let range = year_at-range n (omega arith) in
          let year : first_year +ℤ pos k ≡ year_at n = omega (arith, ints, range.0) in
          let ordinal : ordinal_at (suc n) ≡ 1 = ordinal_at-first n _ first in
          let later : year_at (suc n) ≡ year_at n +ℤ pos 1 = ap (λ c. c.year) first in
          let last : ordinal_at n ≡ days_in_year (year_at n) = omega (arith, ordinals-apart_a_year (year_at n) n (suc n) refl later, ordinal) in
          let new : first_year +ℤ pos (k + 1) ≡ year_at (suc n) = omega (arith, ints, range.0, later) in
          subst (λ y. Closed (count_before in_leap_year (suc n)) y (ordinal_at (suc n))) new
          (subst (λ o. Closed (count_before in_leap_year (suc n)) (first_year +ℤ pos (k + 1)) o) (sym ordinal)
          (next_year (count_before in_leap_year n) _ (ordinal_at n) k (more ∙ ap (λ y. count_before in_leap_year n + (if is_leap_year y then 1 else 0)) (sym year))
          (last ∙ ap days_in_year (sym year)) (subst (λ y. Closed (count_before in_leap_year n) y (ordinal_at n)) (sym year) before)))
    ]

-- each day is in a leap year or in another
pub leap_or_other : (n : ℕ) → count_before in_leap_year n + count_before in_common_year n ≡ n
unfolding count_before
leap_or_other zero = refl
leap_or_other (suc n) =
    let before = leap_or_other n in
    elim (cases_Bool (is_leap_year (year_at n))) [
      | inl leap ↦ rw leap (omega (arith, before))
      | inr not ↦ rw not (omega (arith, before))
    ]

-- with the years as the code has them, in a leap year and in another
days-are : (n k : ℕ) → IsDate n → pos k ≡ year_at n -ℤ first_year
    → count_before in_leap_year n + 366 * (k / 100) ≡ 366 * (k / 4 + k / 400) + (if is_leap_year (year_at n) then ordinal_at n - 1 else 0)
days-are n k h e =
    let same : unsigned_abs (year_at n -ℤ first_year) ≡ k = omega (arith, ints) in
    subst (λ j. count_before in_leap_year n + 366 * (j / 100) ≡ 366 * (j / 4 + j / 400) + (if is_leap_year (year_at n) then ordinal_at n - 1 else 0)) same (leaps_closed n h)

pub days-in_leap : (n k : ℕ) → IsDate n → pos k ≡ year_at n -ℤ first_year → is_leap_year (year_at n) ≡ true
    → 366 * (k / 4 + k / 400 - k / 100) + ordinal_at n - 1 ≡ count_before in_leap_year n
days-in_leap n k h e leap = let all = rw leap at (days-are n k h e) in omega (arith, all, (ordinal_of_date n).0)

pub days-in_other : (n k : ℕ) → IsDate n → pos k ≡ year_at n -ℤ first_year → is_leap_year (year_at n) ≡ false
    → 366 * (k / 4 + k / 400 - k / 100) ≡ count_before in_leap_year n
days-in_other n k h e not = let all = rw not at (days-are n k h e) in omega (arith, all)
