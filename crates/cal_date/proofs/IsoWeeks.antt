-- Each number of the count has an ISO week date, and each ISO week date of the range has a number.
use Rattle.std.proofs.Common.{◌≡◌, ℕ, suc, ◌+◌, ◌-◌, ◌*◌, ◌/◌, ◌%◌, ◌<◌, ◌≤◌, ◌↔◌, refl, sym, ap, subst, ◌∙◌, arith, ℤ, pos, ◌+ℤ◌, ◌-ℤ◌, ◌≤ℤ◌, unsigned_abs, inl, inr, [], ◌∷◌, lit<}
use Rattle.std.proofs.lemmas.Bool.{cases_lt}
use Rattle.std.proofs.lemmas.Int.{ints}
use Rattle.std.proofs.lemmas.Bool.Decides.{nat_tests}
use Rattle.cal_units.specs.Lengths.{days_in_year}
use Rattle.cal_units.specs.Weeks.{weeks_in_year}
use Rattle.cal_units.proofs.Weeks.{weeks_in_year-is}
use Rattle.cal_date.specs.Date.{first_year, year_at, ordinal_at, weekday_at, IsYear, IsDate, HasOrdinalDate}
use Rattle.cal_date.specs.CountLaws.{days_of_years, days_before, in_year, year_start-days_before}
use Rattle.cal_date.specs.PackedDate.{ordinal_number}
use Rattle.cal_date.specs.IsoWeekDate.{weekday_count, thursday_of, iso_year_at, iso_week_at, IsWeek, HasIsoWeekDate}
use Rattle.cal_date.specs.Order.{IsBefore, iso_week_date_at}
use Rattle.cal_date.proofs.Years.{days_before-next}
use Rattle.cal_date.proofs.Dates.{StandsAt, stands, in_range}
use Rattle.cal_date.proofs.Order.{Rises, in_order}
use Rattle.cal_date.proofs.Weekdays.{weekday_at-is, weekday_count-is, weeks_in_year-days_before}

-- The number of whole weeks of the count before the first week of a year.
abbrev pub weeks_before : ℤ → ℕ
weeks_before y = (days_before y + 3) / 7

-- The number of an ISO week date.
abbrev pub iso_number : ℤ → ℕ → ℕ → ℕ
iso_number y w wd = 7 * (weeks_before y + (w - 1)) + wd

pub thursday_of-is : (n : ℕ) → thursday_of n ≡ n - n % 7 + 3
thursday_of-is n = ap (λ k. n - k + 3) (weekday_at-is n)

-- The week of a number.
pub record StandsInWeek (y : ℤ) (w n : ℕ) : Type 0 where
  pub year : first_year ≤ℤ y
  pub week : IsWeek y w
  pub number_is : n ≡ iso_number y w (n % 7)

pub stands_in_week : (n : ℕ) → StandsInWeek (iso_year_at n) (iso_week_at n) n
unfolding iso_year_at iso_week_at
stands_in_week n =
    let t = thursday_of n in
    let is : t ≡ n - n % 7 + 3 = thursday_of-is n in
    let at = stands t in
    let d = days_before (year_at t) in
    let o = ordinal_at t in
    let count : weekday_count 3 t + (d + 6 - 3) / 7 ≡ (t + 7 - 3) / 7 = weekday_count-is 3 t (lit< tt) in
    let number : t ≡ d + (o - 1) = at.number_is in
    let low : 1 ≤ o = at.ordinal.0 in
    let high : o ≤ days_in_year (year_at t) = at.ordinal.1 in
    let weeks = weeks_in_year-days_before (year_at t) at.year in
    record {
      year = at.year;
      week = (omega arith, omega arith);
      number_is = omega arith;
    }

-- The week of a day is a week of its ISO year.
pub iso_week_at-range : (n : ℕ) → IsWeek (iso_year_at n) (iso_week_at n)
iso_week_at-range n = (stands_in_week n).week

-- The number of an ISO week date has this ISO week date.
pub HasIsoWeekDate-iso_number : (y : ℤ) (w wd : ℕ) → first_year ≤ℤ y → IsWeek y w → wd < 7 → HasIsoWeekDate y w wd (iso_number y w wd)
unfolding iso_year_at
HasIsoWeekDate-iso_number y w wd h week below =
    let n = iso_number y w wd in
    let d = days_before y in
    let t = thursday_of n in
    let is : t ≡ n - n % 7 + 3 = thursday_of-is n in
    let weeks = weeks_in_year-days_before y h in
    let low : 1 ≤ w = week.0 in
    let high : w ≤ weeks_in_year y = week.1 in
    let sums : d + (t - d) ≡ t = omega arith in
    let here = in_year d y (t - d) (year_start-days_before y h) (omega arith) in
    let year : iso_year_at n ≡ y = ap year_at (sym sums) ∙ here.0 in
    let at = subst (λ z. StandsInWeek z (iso_week_at n) n) year (stands_in_week n) in
    (year, omega (arith, at.number_is, at.week.0), weekday_at-is n ∙ omega arith)

-- A day of the range has a year and a week of the range, and therefore one number.
pub record IsInWeek (y : ℤ) (w wd n : ℕ) : Type 0 where
  pub year : IsYear y
  pub week : IsWeek y w
  pub number_is : n ≡ iso_number y w wd

-- The ISO year of a day of the range is in the range.
pub IsYear-iso_year_at : (n : ℕ) → IsDate n → IsYear (iso_year_at n)
unfolding iso_year_at
IsYear-iso_year_at n h =
    let t = thursday_of n in
    let is : t ≡ n - n % 7 + 3 = thursday_of-is n in
    (in_range t (year_at t) (ordinal_at t) (omega arith) (refl, refl)).year

pub in_weeks : (n : ℕ) (y : ℤ) (w wd : ℕ) → IsDate n → HasIsoWeekDate y w wd n → IsInWeek y w wd n
in_weeks n y w wd h has =
    let at = subst (λ z. StandsInWeek z (iso_week_at n) n) has.0 (stands_in_week n) in
    let here = subst (λ k. StandsInWeek y k n) has.1 at in
    let day : n % 7 ≡ wd = sym (weekday_at-is n) ∙ has.2 in
    record {
      year = subst IsYear has.0 (IsYear-iso_year_at n h);
      week = here.week;
      number_is = omega (arith, here.number_is);
    }

-- The week of a day, from the ordinal of the Thursday.
pub HasIsoWeekDate-thursday : (y : ℤ) (o n : ℕ) → first_year ≤ℤ y → 1 ≤ o → o ≤ days_in_year y → n - n % 7 + 4 ≡ days_before y + o
    → HasIsoWeekDate y ((o + 6) / 7) (n % 7) n
HasIsoWeekDate-thursday y o n h low high e =
    let weeks = weeks_in_year-days_before y h in
    let w = (o + 6) / 7 in
    let number : n ≡ iso_number y w (n % 7) = omega arith in
    let week : IsWeek y w = (omega arith, omega arith) in
    subst (HasIsoWeekDate y w (n % 7)) (sym number) (HasIsoWeekDate-iso_number y w (n % 7) h week (omega arith))

pub week_of_thursday : (n : ℕ) (y : ℤ) (o : ℕ) → HasOrdinalDate y o (n - n % 7 + 3) → (iso_year_at n ≡ y) × (iso_week_at n ≡ (o + 6) / 7)
week_of_thursday n y o has =
    let at : StandsAt y o (n - n % 7 + 3) = rw (has.0, has.1) at (stands (n - n % 7 + 3)) in
    let date = HasIsoWeekDate-thursday y o n at.year at.ordinal.0 at.ordinal.1 (omega (arith, at.number_is, at.ordinal.0)) in
    (date.0, date.1)

-- The Thursday is in the year of the day, in the year before, or in the next year.
pub HasIsoWeekDate-same_year : (y : ℤ) (o n : ℕ) → first_year ≤ℤ y → 1 ≤ o → n ≡ ordinal_number y o → n % 7 < o + 3 → o + 3 - n % 7 ≤ days_in_year y
    → HasIsoWeekDate y ((o + 3 - n % 7 + 6) / 7) (n % 7) n
HasIsoWeekDate-same_year y o n h low number more within = HasIsoWeekDate-thursday y (o + 3 - n % 7) n h (omega arith) within (omega arith)

HasIsoWeekDate-year_before : (y : ℤ) (o n : ℕ) → first_year ≤ℤ y → 1 ≤ o → n ≡ ordinal_number (y +ℤ pos 1) o → o + 3 ≤ n % 7
    → HasIsoWeekDate y ((days_in_year y + o + 3 - n % 7 + 6) / 7) (n % 7) n
HasIsoWeekDate-year_before y o n h low number less =
    let next = days_before-next y h in
    let long : 365 ≤ days_in_year y = grind (arith, nat_tests) in
    HasIsoWeekDate-thursday y (days_in_year y + o + 3 - n % 7) n h (omega arith) (omega arith) (omega arith)

pub HasIsoWeekDate-next_year : (y : ℤ) (o n : ℕ) → first_year ≤ℤ y → 1 ≤ o → o ≤ days_in_year y → n ≡ ordinal_number y o → days_in_year y < o + 3 - n % 7
    → HasIsoWeekDate (y +ℤ pos 1) 1 (n % 7) n
HasIsoWeekDate-next_year y o n h low high number less =
    let next = days_before-next y h in
    let long : 365 ≤ days_in_year (y +ℤ pos 1) = grind (arith, nat_tests) in
    let t = o + 3 - n % 7 - days_in_year y in
    let first : (t + 6) / 7 ≡ 1 = omega arith in
    subst (λ w. HasIsoWeekDate (y +ℤ pos 1) w (n % 7) n) first (HasIsoWeekDate-thursday (y +ℤ pos 1) t n (omega (arith, ints)) (omega arith) (omega arith) (omega arith))

-- A day whose Thursday is in the year before is not in the first year.
pub has_year_before : (y : ℤ) (o n : ℕ) → first_year ≤ℤ y → 1 ≤ o → n ≡ ordinal_number y o → o + 3 ≤ n % 7 → first_year ≤ℤ (y -ℤ pos 1)
has_year_before y o n h low number less =
    let k = unsigned_abs (y -ℤ first_year) in
    elim (cases_lt 0 k) [
      | inl more ↦ omega (arith, ints)
      | inr least ↦
          let none : days_before y ≡ 0 = ap days_of_years (let e : k ≡ 0 = omega arith in e) ∙ (unfold days_of_years in refl) in
          absurd (omega arith)
    ]

pub HasIsoWeekDate-previous_year : (y : ℤ) (o n : ℕ) → first_year ≤ℤ y → 1 ≤ o → n ≡ ordinal_number y o → o + 3 ≤ n % 7
    → HasIsoWeekDate (y -ℤ pos 1) ((days_in_year (y -ℤ pos 1) + o + 3 - n % 7 + 6) / 7) (n % 7) n
HasIsoWeekDate-previous_year y o n h low number less =
    let year = has_year_before y o n h low number less in
    let same : y ≡ (y -ℤ pos 1) +ℤ pos 1 = omega (arith, ints) in
    HasIsoWeekDate-year_before (y -ℤ pos 1) o n year low (number ∙ ap (λ z. ordinal_number z o) same) less

-- ISO week dates rise from day to day.
iso_week_date_at-is : (y : ℤ) (w wd n : ℕ) → HasIsoWeekDate y w wd n → iso_week_date_at n ≡ (y ∷ pos w ∷ pos wd ∷ [])
iso_week_date_at-is y w wd n has = λ i. has.0 i ∷ pos (has.1 i) ∷ pos (has.2 i) ∷ []

before_next : (n : ℕ) (y z : ℤ) (w v wd vd : ℕ) → HasIsoWeekDate y w wd n → HasIsoWeekDate z v vd (suc n)
    → IsBefore (y ∷ pos w ∷ pos wd ∷ []) (z ∷ pos v ∷ pos vd ∷ []) → IsBefore (iso_week_date_at n) (iso_week_date_at (suc n))
before_next n y z w v wd vd has next before =
    subst (λ xs. IsBefore xs (iso_week_date_at (suc n))) (sym (iso_week_date_at-is y w wd n has))
    (subst (IsBefore (y ∷ pos w ∷ pos wd ∷ [])) (sym (iso_week_date_at-is z v vd (suc n) next)) before)

weeks_in_year-some : (y : ℤ) → 52 ≤ weeks_in_year y
weeks_in_year-some y = grind (arith, nat_tests, weeks_in_year-is y)

next_week_date : (n : ℕ) (y : ℤ) (w wd : ℕ) → StandsInWeek y w n → HasIsoWeekDate y w wd n → n % 7 ≡ wd → IsBefore (iso_week_date_at n) (iso_week_date_at (suc n))
next_week_date n y w wd at has day =
    let number : n ≡ iso_number y w wd = omega (arith, at.number_is) in
    let low : 1 ≤ w = at.week.0 in
    let high : w ≤ weeks_in_year y = at.week.1 in
    elim (cases_lt wd 6) [
      | inl more ↦
          let sums : iso_number y w (wd + 1) ≡ suc n = omega arith in
          before_next n y y w w wd (wd + 1) has (subst (HasIsoWeekDate y w (wd + 1)) sums (HasIsoWeekDate-iso_number y w (wd + 1) at.year at.week (omega arith)))
          (inr (refl, inr (refl, inl (omega (arith, ints)))))
      | inr sunday ↦ elim (cases_lt w (weeks_in_year y)) [
        | inl less ↦
            let sums : iso_number y (w + 1) 0 ≡ suc n = omega arith in
            before_next n y y w (w + 1) wd 0 has (subst (HasIsoWeekDate y (w + 1) 0) sums (HasIsoWeekDate-iso_number y (w + 1) 0 at.year (omega arith, omega arith) (omega arith)))
            (inr (refl, inl (omega (arith, ints))))
        | inr last ↦
            let weeks = weeks_in_year-days_before y at.year in
            let years = days_before-next y at.year in
            let some = weeks_in_year-some (y +ℤ pos 1) in
            let sums : iso_number (y +ℤ pos 1) 1 0 ≡ suc n = omega arith in
            before_next n y (y +ℤ pos 1) w 1 wd 0 has (subst (HasIsoWeekDate (y +ℤ pos 1) 1 0) sums (HasIsoWeekDate-iso_number (y +ℤ pos 1) 1 0 (omega (arith, ints, at.year)) (omega arith, omega arith) (omega arith)))
            (inl (omega (arith, ints)))
      ]
    ]

pub iso_week_dates-rise : Rises iso_week_date_at
iso_week_dates-rise = record { step = λ n. next_week_date n (iso_year_at n) (iso_week_at n) (weekday_at n) (stands_in_week n) (refl, refl, refl) (sym (weekday_at-is n)) }

-- Days have the order of their ISO week dates.
pub iso_week_dates-in_order : (y : ℤ) (w wd n m : ℕ) → HasIsoWeekDate y w wd n → (m < n) ↔ IsBefore (iso_week_date_at m) (y ∷ pos w ∷ pos wd ∷ [])
iso_week_dates-in_order y w wd n m has =
    subst (λ xs. (m < n) ↔ IsBefore (iso_week_date_at m) xs) (iso_week_date_at-is y w wd n has) (in_order iso_week_date_at iso_week_dates-rise m n)
