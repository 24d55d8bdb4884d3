-- The closed forms of the weekday and of the ISO week date, and the date of an ISO week date.
use Rattle.std.proofs.Common.{◌≡◌, ℕ, ◌+◌, ◌-◌, ◌*◌, ◌/◌, ◌%◌, ◌<◌, ◌≤◌, ◌∙◌, refl, inl, inr, sym, ap, subst, arith, ℤ, pos, ◌+ℤ◌, ◌-ℤ◌, ◌≤ℤ◌, ◌<ℤ◌}
use Rattle.std.proofs.lemmas.Bool.{cases_lt}
use Rattle.std.proofs.lemmas.Int.{ints}
use Rattle.std.proofs.lemmas.Bool.Decides.{nat_tests}
use Rattle.cal_units.specs.Lengths.{days_in_year}
use Rattle.cal_units.specs.Weeks.{first_weekday, weeks_in_year}
use Rattle.cal_units.proofs.Weeks.{weeks_in_year-is, weeks_in_year-most}
use Rattle.cal_date.specs.Date.{first_year, last_year, year_at, ordinal_at, weekday_at, IsYear, IsOrdinal, HasOrdinalDate, NoDate}
use Rattle.cal_date.specs.CountLaws.{years_before, days_before, days_of_years-closed}
use Rattle.cal_date.specs.IsoWeekDate.{IsWeek, HasIsoWeekDate}
use Rattle.cal_date.specs.ClosedForms.{week_quotient, iso_year_of, iso_week_of, january_4_weekday, year_of_week, ordinal_of_week}
use Rattle.cal_date.specs.PackedDate.{ordinal_number}
use Rattle.cal_date.proofs.Dates.{IsYear-i32, year-most, StandsAt, stands, in_range}
use Rattle.cal_date.proofs.IsoWeeks.{iso_number, in_weeks, HasIsoWeekDate-iso_number, HasIsoWeekDate-same_year, HasIsoWeekDate-next_year, HasIsoWeekDate-previous_year, has_year_before}
use Rattle.cal_date.proofs.Rising.{has_ordinal_number}
use Rattle.cal_date.proofs.Weekdays.{weekday_at-is, first_weekday-days_before, weeks_in_year-days_before}
use Rattle.cal_date.proofs.Years.{days_before-next}
use Rattle.cal_units.specs.WeekdayCycle.{index-weekday_of_index}

-- The weekday of 1 January, from the number of years of the range before.
pub first_weekday-years_before : (y : ℤ) (k : ℕ) → first_year ≤ℤ y → k ≡ years_before y → first_weekday y ≡ (k + k / 4 - k / 100 + k / 400) % 7
first_weekday-years_before y k late e =
    let first = first_weekday-days_before y late in
    let closed = days_of_years-closed (years_before y) in
    omega arith

-- The weekday of a day, from the weekday of 1 January of its year.
pub weekday_at-first_weekday : (n : ℕ) → weekday_at n ≡ (first_weekday (year_at n) + (ordinal_at n - 1)) % 7
weekday_at-first_weekday n =
    let at = stands n in
    let first = first_weekday-days_before (year_at n) at.year in
    omega (arith, weekday_at-is n)

-- ---- the ISO week date by a quotient, in three cases of the Thursday
-- The week before the first week of a year is the last week of the year before.
last_week : (y : ℤ) (o n : ℕ) → first_year ≤ℤ y → 1 ≤ o → n ≡ ordinal_number y o → o + 3 ≤ n % 7
    → (days_in_year (y -ℤ pos 1) + o + 3 - n % 7 + 6) / 7 ≡ weeks_in_year (y -ℤ pos 1)
last_week y o n late least number before =
    let previous = has_year_before y o n late least number before in
    let weeks = weeks_in_year-days_before (y -ℤ pos 1) previous in
    let same : (y -ℤ pos 1) +ℤ pos 1 ≡ y = omega (arith, ints) in
    let next : days_before y ≡ days_before (y -ℤ pos 1) + days_in_year (y -ℤ pos 1) = ap days_before (sym same) ∙ days_before-next (y -ℤ pos 1) previous in
    omega arith

-- Week 53 is a week of the next year if and only if the Thursday is past the year.
week_53 : (y : ℤ) (o n : ℕ) → first_year ≤ℤ y → 1 ≤ o → o ≤ days_in_year y → n ≡ ordinal_number y o → (o + 9 - n % 7) / 7 ≡ 53 → weeks_in_year y ≡ 52
    → days_in_year y < o + 3 - n % 7
week_53 y o n late least most number last weeks =
    let count = weeks_in_year-days_before y late in
    omega arith

past_year : (y : ℤ) (o n : ℕ) → first_year ≤ℤ y → 1 ≤ o → o ≤ days_in_year y → n ≡ ordinal_number y o → days_in_year y < o + 3 - n % 7
    → ((o + 9 - n % 7) / 7 ≡ 53) × (weeks_in_year y ≡ 52)
past_year y o n late least most number past =
    let count = weeks_in_year-days_before y late in
    let long : 365 ≤ days_in_year y = grind (arith, nat_tests) in
    let short : days_in_year y ≤ 366 = grind (arith, nat_tests) in
    (omega arith, omega arith)

-- The results of the closed forms in each case.
pub record IsIso (y : ℤ) (o w : ℕ) (year : ℤ) (week : ℕ) : Type 0 where
  pub year_is : iso_year_of y o w ≡ year
  pub week_is : iso_week_of y o w ≡ week

pub iso-before : (y : ℤ) (o w : ℕ) → week_quotient o w ≡ 0 → IsIso y o w (y -ℤ pos 1) (weeks_in_year (y -ℤ pos 1))
unfolding iso_year_of iso_week_of
iso-before y o w e = record { year_is = grind (arith, nat_tests); week_is = grind (arith, nat_tests) }

pub iso-after : (y : ℤ) (o w : ℕ) → week_quotient o w ≡ 53 → weeks_in_year y ≡ 52 → IsIso y o w (y +ℤ pos 1) 1
unfolding iso_year_of iso_week_of
iso-after y o w e f = record { year_is = grind (arith, nat_tests); week_is = grind (arith, nat_tests) }

pub iso-same : (y : ℤ) (o w : ℕ) → 0 < week_quotient o w → (week_quotient o w ≡ 53 → weeks_in_year y ≡ 52 → ⊥) → IsIso y o w y (week_quotient o w)
unfolding iso_year_of iso_week_of
iso-same y o w e f = record { year_is = grind (arith, nat_tests); week_is = grind (arith, nat_tests) }

has_iso : (y : ℤ) (o n : ℕ) (year : ℤ) (week : ℕ) → IsIso y o (n % 7 + 1) year week → HasIsoWeekDate year week (n % 7) n
    → HasIsoWeekDate (iso_year_of y o (n % 7 + 1)) (iso_week_of y o (n % 7 + 1)) (n % 7) n
has_iso y o n year week is has = rw (is.year_is, is.week_is) has

-- The closed forms give the ISO week date of each day.
HasIsoWeekDate-standing : (y : ℤ) (o n : ℕ) → StandsAt y o n → HasIsoWeekDate (iso_year_of y o (n % 7 + 1)) (iso_week_of y o (n % 7 + 1)) (n % 7) n
HasIsoWeekDate-standing y o n at =
    let least = at.ordinal.0 in
    let most = at.ordinal.1 in
    let quotient : week_quotient o (n % 7 + 1) ≡ (o + 9 - n % 7) / 7 = ap (λ k. k / 7) (omega arith) in
    elim (cases_lt (n % 7) (o + 3)) as (λ _. HasIsoWeekDate (iso_year_of y o (n % 7 + 1)) (iso_week_of y o (n % 7 + 1)) (n % 7) n) [
      | inl begun ↦ elim (cases_lt (days_in_year y) (o + 3 - n % 7)) as (λ _. HasIsoWeekDate (iso_year_of y o (n % 7 + 1)) (iso_week_of y o (n % 7 + 1)) (n % 7) n) [
        | inl past ↦
            let both = past_year y o n at.year least most at.number_is past in
            has_iso y o n (y +ℤ pos 1) 1 (iso-after y o (n % 7 + 1) (quotient ∙ both.0) both.1) (HasIsoWeekDate-next_year y o n at.year least most at.number_is past)
        | inr within ↦
            let same = iso-same y o (n % 7 + 1) (omega arith) (λ e f. omega (arith, week_53 y o n at.year least most at.number_is (sym quotient ∙ e) f)) in
            let week : (o + 3 - n % 7 + 6) / 7 ≡ week_quotient o (n % 7 + 1) = ap (λ k. k / 7) (omega arith) in
            has_iso y o n y (week_quotient o (n % 7 + 1)) same
            (subst (λ k. HasIsoWeekDate y k (n % 7) n) week (HasIsoWeekDate-same_year y o n at.year least at.number_is begun within))
      ]
      | inr before ↦
          let week = last_week y o n at.year least at.number_is before in
          has_iso y o n (y -ℤ pos 1) (weeks_in_year (y -ℤ pos 1)) (iso-before y o (n % 7 + 1) (omega arith))
          (subst (λ k. HasIsoWeekDate (y -ℤ pos 1) k (n % 7) n) week (HasIsoWeekDate-previous_year y o n at.year least at.number_is before))
    ]

pub HasIsoWeekDate-closed : (n : ℕ)
    → HasIsoWeekDate (iso_year_of (year_at n) (ordinal_at n) (weekday_at n + 1)) (iso_week_of (year_at n) (ordinal_at n) (weekday_at n + 1)) (weekday_at n) n
HasIsoWeekDate-closed n =
    subst (λ d. HasIsoWeekDate (iso_year_of (year_at n) (ordinal_at n) (d + 1)) (iso_week_of (year_at n) (ordinal_at n) (d + 1)) d n) (sym (weekday_at-is n))
    (HasIsoWeekDate-standing (year_at n) (ordinal_at n) n (stands n))

-- ---- the date of an ISO week date
-- Each year has 52 weeks or more.
pub weeks_in_year-least : (y : ℤ) → 52 ≤ weeks_in_year y
weeks_in_year-least y = grind (arith, nat_tests, weeks_in_year-is y)

pub ruleset at_least_52_weeks = (weeks_in_year-least, ints, nat_tests)

pub ruleset years_of_weeks = (IsYear-i32, weeks_in_year-least, weeks_in_year-most, year-most, ints, nat_tests)

-- The results of the closed forms in each case.
pub record IsBack (y : ℤ) (w wd : ℕ) (year : ℤ) (ordinal : ℕ) : Type 0 where
  pub year_is : year_of_week y w wd ≡ year
  pub ordinal_is : ordinal_of_week y w wd ≡ ordinal

pub back-before : (y : ℤ) (w wd : ℕ) → 7 * w + wd ≤ january_4_weekday y + 3 → IsBack y w wd (y -ℤ pos 1) (days_in_year (y -ℤ pos 1) + (7 * w + wd) - (january_4_weekday y + 3))
unfolding year_of_week ordinal_of_week
back-before y w wd h = record { year_is = grind (arith, nat_tests); ordinal_is = grind (arith, nat_tests) }

pub back-after : (y : ℤ) (w wd : ℕ) → january_4_weekday y + 3 + days_in_year y < 7 * w + wd → IsBack y w wd (y +ℤ pos 1) (7 * w + wd - (january_4_weekday y + 3) - days_in_year y)
unfolding year_of_week ordinal_of_week
back-after y w wd h = record { year_is = grind (arith, nat_tests); ordinal_is = grind (arith, nat_tests) }

pub back-same : (y : ℤ) (w wd : ℕ) → january_4_weekday y + 3 < 7 * w + wd → 7 * w + wd ≤ january_4_weekday y + 3 + days_in_year y → IsBack y w wd y (7 * w + wd - (january_4_weekday y + 3))
unfolding year_of_week ordinal_of_week
back-same y w wd h f = record { year_is = grind (arith, nat_tests); ordinal_is = grind (arith, nat_tests) }

-- A year and an ordinal of the count, with the number of the ISO week date.
pub record IsDayOfWeek (y : ℤ) (w p : ℕ) (z : ℤ) (o : ℕ) : Type 0 where
  pub late : first_year ≤ℤ z
  pub ordinal : IsOrdinal z o
  pub number_is : ordinal_number z o ≡ iso_number y w p

-- The first year begins on a Monday, so none of its weeks begins in the year before.
has_year_before_week : (y : ℤ) (w p : ℕ) → first_year ≤ℤ y → 1 ≤ w → 7 * w + (p + 1) ≤ january_4_weekday y + 3 → first_year ≤ℤ (y -ℤ pos 1)
has_year_before_week y w p late least before =
    let k = years_before y in
    let first = first_weekday-years_before y k late refl in
    elim (cases_lt 0 k) as (λ _. first_year ≤ℤ (y -ℤ pos 1)) [
      | inl more ↦ omega (arith, ints)
      | inr none ↦ absurd (omega arith)
    ]

pub day_of_week : (y : ℤ) (w p : ℕ) → first_year ≤ℤ y → IsWeek y w → p < 7 → IsDayOfWeek y w p (year_of_week y w (p + 1)) (ordinal_of_week y w (p + 1))
day_of_week y w p late week below =
    let d = days_before y in
    let first : first_weekday y ≡ d % 7 = first_weekday-days_before y late in
    let weeks = weeks_in_year-days_before y late in
    let least = week.0 in
    let most = week.1 in
    let next = days_before-next y late in
    let long : 365 ≤ days_in_year y = grind (arith, nat_tests) in
    elim (cases_lt (january_4_weekday y + 3) (7 * w + (p + 1))) as (λ _. IsDayOfWeek y w p (year_of_week y w (p + 1)) (ordinal_of_week y w (p + 1))) [
      | inl begun ↦ elim (cases_lt (january_4_weekday y + 3 + days_in_year y) (7 * w + (p + 1))) as (λ _. IsDayOfWeek y w p (year_of_week y w (p + 1)) (ordinal_of_week y w (p + 1))) [
        | inl past ↦
            let is = back-after y w (p + 1) past in
            let after : 365 ≤ days_in_year (y +ℤ pos 1) = grind (arith, nat_tests) in
            rw (is.year_is, is.ordinal_is) (record { late = omega (arith, ints); ordinal = (omega arith, omega arith); number_is = omega arith })
        | inr within ↦
            let is = back-same y w (p + 1) begun within in
            rw (is.year_is, is.ordinal_is) (record { late = late; ordinal = (omega arith, omega arith); number_is = omega arith })
      ]
      | inr before ↦
          let is = back-before y w (p + 1) before in
          let previous = has_year_before_week y w p late least before in
          let same : (y -ℤ pos 1) +ℤ pos 1 ≡ y = omega (arith, ints) in
          let years : d ≡ days_before (y -ℤ pos 1) + days_in_year (y -ℤ pos 1) = ap days_before (sym same) ∙ days_before-next (y -ℤ pos 1) previous in
          let short : 365 ≤ days_in_year (y -ℤ pos 1) = grind (arith, nat_tests) in
          rw (is.year_is, is.ordinal_is) (record { late = previous; ordinal = (omega arith, omega arith); number_is = omega arith })
    ]

-- The day with this ordinal date has the ISO week date.
pub week_date_of_day : (y : ℤ) (w p n : ℕ) → IsYear y → IsWeek y w → p < 7 → HasOrdinalDate (year_of_week y w (p + 1)) (ordinal_of_week y w (p + 1)) n → HasIsoWeekDate y w p n
week_date_of_day y w p n year week below has =
    let at : StandsAt (year_of_week y w (p + 1)) (ordinal_of_week y w (p + 1)) n = rw (has.0, has.1) at (stands n) in
    let is = day_of_week y w p year.0 week below in
    subst (HasIsoWeekDate y w p) (sym (at.number_is ∙ is.number_is)) (HasIsoWeekDate-iso_number y w p year.0 week below)

-- If its year is after the last year, no day of the range has the ISO week date.
pub NoDate-week_date : (y : ℤ) (w p : ℕ) → IsYear y → IsWeek y w → p < 7 → last_year <ℤ year_of_week y w (p + 1) → NoDate (HasIsoWeekDate y w p)
NoDate-week_date y w p year week below late n h has =
    let is = day_of_week y w p year.0 week below in
    let number = (in_weeks n y w p h has).number_is ∙ sym is.number_is in
    let there = has_ordinal_number (year_of_week y w (p + 1)) (ordinal_of_week y w (p + 1)) is.late is.ordinal in
    let here = subst (HasOrdinalDate (year_of_week y w (p + 1)) (ordinal_of_week y w (p + 1))) (sym number) there in
    let year = (in_range n _ _ h here).year in
    let most = year.1 in
    omega (arith, ints)

pub ruleset weekdays = (weekday_at-first_weekday, index-weekday_of_index, IsYear-i32, ints, nat_tests)
