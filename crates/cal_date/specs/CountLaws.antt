-- Laws of the count of days: the first day of each month and year, and the days of the first years.
use Rattle.std.proofs.Common.{◌≡◌, ℕ, zero, suc, ◌+◌, ◌-◌, ◌*◌, ◌/◌, ◌<◌, ◌≤◌, refl, ap, ◌∙◌, arith, ℤ, pos, ◌+ℤ◌, ◌-ℤ◌, ◌≤ℤ◌, unsigned_abs, true, false, lit<, add-zero, inl, inr, add-one, add_assoc}
use Rattle.std.proofs.lemmas.Bool.{cases_lt}
use Rattle.std.proofs.lemmas.Int.{ints}
use Rattle.std.proofs.lemmas.Bool.Decides.{nat_tests}
use Rattle.cal_units.specs.Lengths.{days_in_year, days_in_month}
use Rattle.cal_date.specs.CalendarDay.{calendar_day, day_after, is_first_of_january}
use Rattle.cal_date.specs.Date.{first_year, day_at, year_at, ordinal_at, HasOrdinalDate}

-- Day n + 1 is the day after day n.
pub day_at-suc : (n : ℕ) → day_at (suc n) ≡ day_after (day_at n)
unfolding day_at
day_at-suc n = refl

-- The ordinal goes up by one to a day that isn't 1 January.
ordinal_at-same_year : (n : ℕ) → is_first_of_january (day_at (suc n)) ≡ false → ordinal_at (suc n) ≡ ordinal_at n + 1
unfolding ordinal_at
ordinal_at-same_year n h = rw h refl

-- The ordinal of a 1 January is 1.
ordinal_at-new_year : (n : ℕ) → is_first_of_january (day_at (suc n)) ≡ true → ordinal_at (suc n) ≡ 1
unfolding ordinal_at
ordinal_at-new_year n h = rw h refl

-- The day after a day that isn't the last of its month is the next day of the month.
day_after-in_month : (y : ℤ) (m d : ℕ) → d < days_in_month y m → day_after (calendar_day y m d) ≡ calendar_day y m (d + 1)
unfolding day_after
day_after-in_month y m d h = grind (arith, nat_tests)

-- The day after the last day of a month before December is the first day of the next month.
day_after-next_month : (y : ℤ) (m : ℕ) → m < 12 → day_after (calendar_day y m (days_in_month y m)) ≡ calendar_day y (m + 1) 1
unfolding day_after
day_after-next_month y m h = grind (arith, nat_tests)

-- The day after 31 December is 1 January of the next year.
day_after-next_year : (y : ℤ) → day_after (calendar_day y 12 31) ≡ calendar_day (y +ℤ pos 1) 1 1
unfolding day_after days_in_month
day_after-next_year y = refl

-- A month has 28 days or more.
days_in_month-bound : (y : ℤ) (m : ℕ) → 0 < m → m ≤ 12 → 28 ≤ days_in_month y m
unfolding days_in_month
days_in_month-bound y m low high = grind (arith, nat_tests)

-- Day n is this day of the calendar, and has this ordinal.
pub record IsDayAt (n : ℕ) (y : ℤ) (m d o : ℕ) : Type 0 where
  pub day_is : day_at n ≡ calendar_day y m d
  pub ordinal_is : ordinal_at n ≡ o

-- The days of a month follow one another.
in_month : (n j : ℕ) (y : ℤ) (m o : ℕ) → IsDayAt n y m 1 o → j < days_in_month y m → IsDayAt (n + j) y m (j + 1) (o + j)
in_month n zero y m o e h = simp add-zero e
in_month n (suc j) y m o e h =
    let before : IsDayAt (n + j) y m (j + 1) (o + j) = in_month n j y m o e (omega arith) in
    let room : j + 1 < days_in_month y m = omega arith in
    let sums : suc (n + j) ≡ n + suc j = omega arith in
    let day : day_at (suc (n + j)) ≡ calendar_day y m (suc j + 1) =
    day_at-suc (n + j) ∙ ap day_after before.day_is ∙ day_after-in_month y m (j + 1) room ∙ ap (calendar_day y m) (omega arith) in
    let same : is_first_of_january (day_at (suc (n + j))) ≡ false = rw day (grind (arith, nat_tests)) in
    let ordinal : ordinal_at (suc (n + j)) ≡ o + suc j =
    ordinal_at-same_year (n + j) same ∙ ap (λ k. k + 1) before.ordinal_is ∙ omega arith in
    rw (← sums) (record { day_is = day; ordinal_is = ordinal })

-- After a month comes the first day of the next month.
next_month : (n : ℕ) (y : ℤ) (m o : ℕ) → IsDayAt n y m 1 o → 0 < m → m < 12 → IsDayAt (n + days_in_month y m) y (m + 1) 1 (o + days_in_month y m)
next_month n y m o e low high =
    let some : 28 ≤ days_in_month y m = days_in_month-bound y m low (omega arith) in
    let j = days_in_month y m - 1 in
    let last : IsDayAt (n + j) y m (j + 1) (o + j) = in_month n j y m o e (omega arith) in
    let sums : suc (n + j) ≡ n + days_in_month y m = omega arith in
    let day : day_at (suc (n + j)) ≡ calendar_day y (m + 1) 1 =
    day_at-suc (n + j) ∙ ap day_after (last.day_is ∙ ap (calendar_day y m) (omega arith)) ∙ day_after-next_month y m high in
    let same : is_first_of_january (day_at (suc (n + j))) ≡ false = rw day (grind (arith, nat_tests)) in
    let ordinal : ordinal_at (suc (n + j)) ≡ o + days_in_month y m =
    ordinal_at-same_year (n + j) same ∙ ap (λ k. k + 1) last.ordinal_is ∙ omega arith in
    rw (← sums) (record { day_is = day; ordinal_is = ordinal })

-- The number of days of the first k months of a year.
unfoldable pub days_of_months : ℤ → ℕ → ℕ
days_of_months y zero = 0
days_of_months y (suc k) = days_of_months y k + days_in_month y (suc k)

-- The first day of each month of a year comes after the days of the months before it.
month_start : (n : ℕ) (y : ℤ) (k : ℕ) → IsDayAt n y 1 1 1 → k < 12 → IsDayAt (n + days_of_months y k) y (k + 1) 1 (1 + days_of_months y k)
unfolding days_of_months
month_start n y zero e h = simp add-zero e
month_start n y (suc k) e h =
    let before : IsDayAt (n + days_of_months y k) y (k + 1) 1 (1 + days_of_months y k) = month_start n y k e (omega arith) in
    let after = next_month (n + days_of_months y k) y (k + 1) (1 + days_of_months y k) before (omega arith) (omega arith) in
    record {
      day_is = ap day_at (simp (add-one, add_assoc)) ∙ after.day_is ∙ ap (λ m. calendar_day y m 1) (omega arith);
      ordinal_is = ap ordinal_at (simp (add-one, add_assoc)) ∙ after.ordinal_is ∙ simp (add-one, add_assoc);
    }

-- The months make up the year.
days_of_months-all : (y : ℤ) → days_of_months y 12 ≡ days_in_year y
unfolding days_of_months days_in_month
days_of_months-all y = grind (arith, nat_tests)

-- The first 11 months and 31 days make up the year.
days_of_months-december : (y : ℤ) → days_of_months y 11 + 31 ≡ days_in_year y
unfolding days_of_months days_in_month
days_of_months-december y = grind (arith, nat_tests)

-- December has more than 30 days.
days_in_month-december : (y : ℤ) → 30 < days_in_month y 12
unfolding days_in_month
days_in_month-december y = lit< tt

-- An index in the first k months is in one of them.
month_of : (y : ℤ) (k j : ℕ) → j < days_of_months y k → (i : ℕ) × (d : ℕ) × (i < k) × (d < days_in_month y (i + 1)) × (j ≡ days_of_months y i + d)
unfolding days_of_months
month_of y zero j h = absurd (omega arith)
month_of y (suc k) j h =
    elim (cases_lt j (days_of_months y k)) [
      | inl low ↦ let found = month_of y k j low in (found.0, found.1, omega (arith, found.2), found.3, found.4)
      | inr high ↦ (k, j - days_of_months y k, omega arith, (let e : suc k ≡ k + 1 = omega arith in rw (← e) (omega arith)), omega arith)
    ]

-- The year begins on day n.
abbrev pub IsYearStart : ℕ → ℤ → Type 0
IsYearStart n y = IsDayAt n y 1 1 1

-- The day that is i months and d days after the first day of the year.
pub in_months : (n : ℕ) (y : ℤ) (i d : ℕ) → IsYearStart n y → i < 12 → d < days_in_month y (i + 1)
    → IsDayAt (n + (days_of_months y i + d)) y (i + 1) (d + 1) (days_of_months y i + d + 1)
in_months n y i d e low h =
    let here = in_month (n + days_of_months y i) d y (i + 1) (1 + days_of_months y i) (month_start n y i e low) h in
    let sums : n + days_of_months y i + d ≡ n + (days_of_months y i + d) = omega arith in
    rw (← sums) (record { day_is = here.day_is; ordinal_is = here.ordinal_is ∙ omega arith })

-- The index j of a day in the year y, from 0 for 1 January, is a number of whole months and days.
pub record IsInMonth (y : ℤ) (j : ℕ) : Type 0 where
  pub months : ℕ
  pub days : ℕ
  pub months_below : months < 12
  pub days_below : days < days_in_month y (months + 1)
  pub index_is : j ≡ days_of_months y months + days

-- Each index below the length of the year is a number of whole months and days.
pub index_in_year : (y : ℤ) (j : ℕ) → j < days_in_year y → IsInMonth y j
index_in_year y j h =
    let found = month_of y 12 j (rw (days_of_months-all y) h) in
    record { months = found.0; days = found.1; months_below = found.2; days_below = found.3; index_is = found.4 }

-- The days of a year follow one another.
pub in_year : (n : ℕ) (y : ℤ) (j : ℕ) → IsYearStart n y → j < days_in_year y → HasOrdinalDate y (j + 1) (n + j)
in_year n y j e h =
    let at = index_in_year y j h in
    let here = in_months n y at.months at.days e at.months_below at.days_below in
    (ap year_at (ap (λ k. n + k) at.index_is) ∙ ap (λ d. d.year) here.day_is, ap ordinal_at (ap (λ k. n + k) at.index_is) ∙ here.ordinal_is ∙ omega (arith, at.index_is))

-- 31 December is the last day of the year.
pub year_end : (n : ℕ) (y : ℤ) → IsYearStart n y → IsDayAt (n + (days_in_year y - 1)) y 12 31 (days_in_year y)
year_end n y e =
    let start = month_start n y 11 e (lit< tt) in
    let last = in_month (n + days_of_months y 11) 30 y 12 (1 + days_of_months y 11) start (days_in_month-december y) in
    let sums : n + days_of_months y 11 + 30 ≡ n + (days_in_year y - 1) = omega (arith, days_of_months-december y) in
    rw (← sums) (record { day_is = last.day_is; ordinal_is = last.ordinal_is ∙ omega (arith, days_of_months-december y) })

-- After a year comes the first day of the next year.
next_year : (n : ℕ) (y : ℤ) → IsYearStart n y → IsYearStart (n + days_in_year y) (y +ℤ pos 1)
next_year n y e =
    let last = year_end n y e in
    let j = n + (days_in_year y - 1) in
    let sums : suc j ≡ n + days_in_year y = omega (arith, days_of_months-december y) in
    let day : day_at (suc j) ≡ calendar_day (y +ℤ pos 1) 1 1 =
    day_at-suc j ∙ ap day_after last.day_is ∙ day_after-next_year y in
    let new : is_first_of_january (day_at (suc j)) ≡ true = rw day refl in
    rw (← sums) (record { day_is = day; ordinal_is = ordinal_at-new_year j new })

-- The number of days of the first k years of the range.
unfoldable pub days_of_years : ℕ → ℕ
days_of_years zero = 0
days_of_years (suc k) = days_of_years k + days_in_year (first_year +ℤ pos k)

-- The year after the first k years of the range has 365 days, and one more if 4 divides k + 1,
-- except if 100 does and 400 doesn't.
pub leap_year-step : (k : ℕ) → days_in_year (first_year +ℤ pos k) + (k + 1) / 100 + k / 4 + k / 400 ≡ 365 + k / 100 + (k + 1) / 4 + (k + 1) / 400
leap_year-step k = grind (arith, ints, nat_tests)

-- One more year keeps the closed form of the days of the first k years.
closed-step : (k d d' l : ℕ) → d' ≡ d + l → l + (k + 1) / 100 + k / 4 + k / 400 ≡ 365 + k / 100 + (k + 1) / 4 + (k + 1) / 400 → d + k / 100 ≡ 365 * k + k / 4 + k / 400
    → d' + suc k / 100 ≡ 365 * suc k + suc k / 4 + suc k / 400
closed-step k d d' l e f g = let s : suc k ≡ k + 1 = omega arith in rw s (omega arith)

-- One more year adds its days.
pub days_of_years-suc : (k : ℕ) → days_of_years (suc k) ≡ days_of_years k + days_in_year (first_year +ℤ pos k)
unfolding days_of_years
days_of_years-suc k = refl

-- The days of the first k years: 365 for each year, and one for each leap year.
pub days_of_years-closed : (k : ℕ) → days_of_years k + k / 100 ≡ 365 * k + k / 4 + k / 400
days_of_years-closed zero = unfold days_of_years in refl
days_of_years-closed (suc k) = closed-step k (days_of_years k) (days_of_years (suc k)) (days_in_year (first_year +ℤ pos k)) (days_of_years-suc k) (leap_year-step k) (days_of_years-closed k)

-- The year after the first k years of the range begins after their days.
pub year_start : (k : ℕ) → IsYearStart (days_of_years k) (first_year +ℤ pos k)
unfolding days_of_years
year_start zero = record { day_is = unfold day_at in refl; ordinal_is = unfold ordinal_at in refl }
year_start (suc k) =
    let next = next_year (days_of_years k) (first_year +ℤ pos k) (year_start k) in
    let same : (first_year +ℤ pos k) +ℤ pos 1 ≡ first_year +ℤ pos (suc k) = omega (arith, ints) in
    rw same at next

-- The number of years of the range before a year.
abbrev pub years_before : ℤ → ℕ
years_before y = unsigned_abs (y -ℤ first_year)

-- The number of days of the range before a year.
abbrev pub days_before : ℤ → ℕ
days_before y = days_of_years (years_before y)

-- A year from the first year on begins after the days of the years before it.
pub year_start-days_before : (y : ℤ) → first_year ≤ℤ y → IsYearStart (days_before y) y
year_start-days_before y h =
    let k = unsigned_abs (y -ℤ first_year) in
    let same : first_year +ℤ pos k ≡ y = omega (arith, ints) in
    rw same at (year_start k)
