-- Laws for callers: the components of a day, which are unique, and their order.
use Rattle.std.proofs.Common.{◌≡◌, ℕ, ◌+◌, ◌<◌, ◌≤◌, inl, inr, refl, sym, ap, ◌∙◌, arith, ℤ, pos, ◌+ℤ◌, ◌*ℤ◌, ◌<ℤ◌, ◌≤ℤ◌, [], ◌∷◌}
use Rattle.std.proofs.lemmas.Bool.{cases_lt}
use Rattle.std.proofs.lemmas.Int.{ints}
use Rattle.cal_units.specs.declared.month.Month.{Month}
use Rattle.cal_units.specs.declared.weekday.Weekday.{Weekday}
use Rattle.cal_units.specs.Lengths.{days_in_year}
use Rattle.cal_units.specs.Month as month
use Rattle.cal_units.specs.MonthCycle.{month_of_index-index}
use Rattle.cal_units.specs.Weekday as weekday
use Rattle.cal_units.specs.WeekdayCycle.{weekday_of_index-index}
use Rattle.cal_date.specs.CountLaws.{days_before}
use Rattle.cal_date.specs.Date.{first_year, year_at, month_at, day_of_month_at, ordinal_at, weekday_at, HasCalendarDate}
use Rattle.cal_date.specs.IsoWeekDate.{iso_year_at, iso_week_at, HasIsoWeekDate}
use Rattle.cal_date.specs.Order.{IsBefore, ordinal_date_at, calendar_date_at, iso_week_date_at}
use Rattle.cal_date.proofs.Dates.{stands}
use Rattle.cal_date.proofs.IsoWeeks.{iso_week_dates-rise}
use Rattle.cal_date.proofs.Neighbours.{same_year}
use Rattle.cal_date.proofs.Order.{in_order}
use Rattle.cal_date.proofs.Rising.{Rises-calendar_date, Rises-ordinal_date}
use Rattle.cal_date.proofs.Years.{days_before-next}
use Rattle.cal_time.specs.Days.{month_at-range}

-- Two months with the same number are the same.
pub number-one : (m k : Month) → month.number m ≡ month.number k → m ≡ k
number-one m k e = sym (month_of_index-index m) ∙ ap month.month_of_index (omega (arith, e)) ∙ month_of_index-index k

-- Two weekdays with the same index are the same.
pub index-one : (v w : Weekday) → weekday.index v ≡ weekday.index w → v ≡ w
index-one v w e = sym (weekday_of_index-index v) ∙ ap weekday.weekday_of_index e ∙ weekday_of_index-index w

-- Two calendar dates of the same day are the same.
pub calendar_date-same : (n : ℕ) (r s : ℤ × Month × ℕ) → HasCalendarDate r.0 (month.number r.1) r.2 n → HasCalendarDate s.0 (month.number s.1) s.2 n → r ≡ s
calendar_date-same n r s e f =
    let years : r.0 ≡ s.0 = ap (λ d. d.year) (sym e ∙ f) in
    let months : r.1 ≡ s.1 = number-one r.1 s.1 (ap (λ d. d.month) (sym e ∙ f)) in
    let days : r.2 ≡ s.2 = ap (λ d. d.day) (sym e ∙ f) in
    λ i. (years i, months i, days i)

-- Two ISO week dates of the same day are the same.
pub iso_week_date-same : (n : ℕ) (r s : ℤ × ℕ × Weekday) → HasIsoWeekDate r.0 r.1 (weekday.index r.2) n → HasIsoWeekDate s.0 s.1 (weekday.index s.2) n → r ≡ s
iso_week_date-same n r s e f =
    let years : r.0 ≡ s.0 = sym e.0 ∙ f.0 in
    let weeks : r.1 ≡ s.1 = sym e.1 ∙ f.1 in
    let days : r.2 ≡ s.2 = index-one r.2 s.2 (sym e.2 ∙ f.2) in
    λ i. (years i, weeks i, days i)

-- The year z isn't before y. In the same year the month k isn't before m, and in the same month the
-- day d is before e.
record InOrder (y z : ℤ) (m k d e : ℕ) : Type 0 where
  years : y ≤ℤ z
  months : y ≡ z → m ≤ k
  days : y ≡ z → m ≡ k → d < e

-- A year and an ordinal that are before another year and ordinal are in this order. The months are
-- 0, as if each year had one month.
two : (y z : ℤ) (o p : ℕ) → IsBefore (y ∷ pos o ∷ []) (z ∷ pos p ∷ []) → InOrder y z 0 0 o p
two y z o p h =
    elim h as (λ _. InOrder y z 0 0 o p) [
      | inl less ↦ record { years = omega (arith, ints); months = λ _. omega arith; days = λ e f. absurd (omega (arith, ints)) }
      | inr same ↦ elim same.1 as (λ _. InOrder y z 0 0 o p) [
        | inl less ↦ record { years = omega (arith, ints, same.0); months = λ _. omega arith; days = λ e f. omega (arith, ints) }
        | inr none ↦ absurd none.1
      ]
    ]

-- A year, a month and a day that are before another year, month and day are in this order.
three : (y z : ℤ) (m k d e : ℕ) → IsBefore (y ∷ pos m ∷ pos d ∷ []) (z ∷ pos k ∷ pos e ∷ []) → InOrder y z m k d e
three y z m k d e h =
    elim h as (λ _. InOrder y z m k d e) [
      | inl less ↦ record { years = omega (arith, ints); months = λ f. absurd (omega (arith, ints)); days = λ f g. absurd (omega (arith, ints)) }
      | inr same ↦
          let after = two (pos m) (pos k) d e same.1 in
          record { years = omega (arith, ints, same.0); months = λ f. omega (arith, ints, after.years); days = λ f g. after.days (ap pos g) refl }
    ]

-- The years and the ordinals of an earlier and a later day are in this order.
by_ordinal : (m n : ℕ) → m < n → InOrder (year_at m) (year_at n) 0 0 (ordinal_at m) (ordinal_at n)
by_ordinal m n h = two _ _ _ _ ((in_order ordinal_date_at Rises-ordinal_date m n).0 h)

-- The years, the months and the days of the month of an earlier and a later day are in this order.
by_calendar : (m n : ℕ) → m < n → InOrder (year_at m) (year_at n) (month_at m) (month_at n) (day_of_month_at m) (day_of_month_at n)
by_calendar m n h = three _ _ _ _ _ _ ((in_order calendar_date_at Rises-calendar_date m n).0 h)

-- The ISO years, the ISO weeks and the weekdays of an earlier and a later day are in this order.
by_week : (m n : ℕ) → m < n → InOrder (iso_year_at m) (iso_year_at n) (iso_week_at m) (iso_week_at n) (weekday_at m) (weekday_at n)
by_week m n h = three _ _ _ _ _ _ ((in_order iso_week_date_at iso_week_dates-rise m n).0 h)

-- An earlier day doesn't have a later year.
pub year_at-rises : (m n : ℕ) → m ≤ n → year_at m ≤ℤ year_at n
year_at-rises m n h =
    elim (cases_lt m n) [
      | inl less ↦ (by_calendar m n less).years
      | inr most ↦ let e : m ≡ n = omega arith in omega (arith, ints, ap year_at e)
    ]

-- In one year an earlier day has a smaller ordinal.
pub ordinal_at-rises : (m n : ℕ) → m < n → year_at m ≡ year_at n → ordinal_at m < ordinal_at n
ordinal_at-rises m n h e = (by_ordinal m n h).days e refl

-- In one year an earlier day doesn't have a later month.
pub month_at-rises : (m n : ℕ) → m ≤ n → year_at m ≡ year_at n → month_at m ≤ month_at n
month_at-rises m n h e =
    elim (cases_lt m n) [
      | inl less ↦ (by_calendar m n less).months e
      | inr most ↦ let same : m ≡ n = omega arith in omega (arith, ap month_at same)
    ]

-- In one month an earlier day has a smaller day of the month.
pub day_of_month_at-rises : (m n : ℕ) → m < n → year_at m ≡ year_at n → month_at m ≡ month_at n → day_of_month_at m < day_of_month_at n
day_of_month_at-rises m n h e f = (by_calendar m n h).days e f

-- If a component rises within a year and is smaller on the later day, the year is later.
later_by : (y z : ℤ) (p q : ℕ) → y ≤ℤ z → (y ≡ z → p ≤ q) → q < p → y <ℤ z
later_by y z p q h rises less = grind (arith, ints)

-- A later day is in a later year if its month has a smaller number.
pub year_at-later : (m n : ℕ) → m ≤ n → month_at n < month_at m → year_at m <ℤ year_at n
year_at-later m n h less = later_by (year_at m) (year_at n) (month_at m) (month_at n) (year_at-rises m n h) (month_at-rises m n h) less

-- A later day is in a later year if its month has the same number, and its day of the month is
-- smaller.
pub year_at-later_in_month : (m n : ℕ) → m ≤ n → month_at n ≡ month_at m → day_of_month_at n < day_of_month_at m → year_at m <ℤ year_at n
year_at-later_in_month m n h same less =
    elim (cases_lt m n) [
      | inl before ↦ later_by _ _ (day_of_month_at m) (day_of_month_at n) (year_at-rises m n h) (λ e. omega (arith, day_of_month_at-rises m n before e (sym same))) less
      | inr most ↦ let e : m ≡ n = omega arith in absurd (omega (arith, ap day_of_month_at e))
    ]

-- An earlier day doesn't have a later ISO year.
pub iso_year_at-rises : (m n : ℕ) → m ≤ n → iso_year_at m ≤ℤ iso_year_at n
iso_year_at-rises m n h =
    elim (cases_lt m n) [
      | inl less ↦ (by_week m n less).years
      | inr most ↦ let e : m ≡ n = omega arith in omega (arith, ints, ap iso_year_at e)
    ]

-- In one ISO year an earlier day doesn't have a later ISO week.
pub iso_week_at-rises : (m n : ℕ) → m ≤ n → iso_year_at m ≡ iso_year_at n → iso_week_at m ≤ iso_week_at n
iso_week_at-rises m n h e =
    elim (cases_lt m n) [
      | inl less ↦ (by_week m n less).months e
      | inr most ↦ let same : m ≡ n = omega arith in omega (arith, ap iso_week_at same)
    ]

-- In one ISO week an earlier day has an earlier weekday, counted from Monday.
pub weekday_at-rises : (m n : ℕ) → m < n → iso_year_at m ≡ iso_year_at n → iso_week_at m ≡ iso_week_at n → weekday_at m < weekday_at n
weekday_at-rises m n h e f = (by_week m n h).days e f

-- The distance of two days of one year is the difference of their ordinals.
pub ordinals-apart : (m n : ℕ) → year_at m ≡ year_at n → m + ordinal_at n ≡ n + ordinal_at m
ordinals-apart m n e = same_year m n e

-- The law above for a caller's `#[tactic(auto, using(..))]`, which takes no name with a dash.
pub ruleset days_apart = (ordinals-apart)

-- The distance of a day of the year y and a day of the next year is the difference of their
-- ordinals, plus the number of days of the year y.
pub ordinals-apart_a_year : (y : ℤ) (m n : ℕ) → year_at m ≡ y → year_at n ≡ y +ℤ pos 1 → m + days_in_year y + ordinal_at n ≡ n + ordinal_at m
ordinals-apart_a_year y m n e f =
    let here = stands m in
    let there = stands n in
    let late : first_year ≤ℤ y = omega (arith, ints, here.year) in
    omega (arith, here.number_is, there.number_is, ap days_before e, ap days_before f, days_before-next y late, here.ordinal.0, there.ordinal.0)

-- If the year z isn't before y, and in the same year the month k isn't before m, then the month k
-- of z isn't before the month m of y. Months are numbered as 12 times the year plus the month.
months_in_order : (y z : ℤ) (m k : ℕ) → y ≤ℤ z → (y ≡ z → m ≤ k) → m ≤ 12 → 1 ≤ k → (pos 12 *ℤ y +ℤ pos m) ≤ℤ (pos 12 *ℤ z +ℤ pos k)
months_in_order y z m k years months most least = grind (arith, ints)

-- An earlier day doesn't have a later month. Months are numbered as 12 times the year plus the
-- month.
pub months-rise : (m n : ℕ) → m ≤ n → (pos 12 *ℤ year_at m +ℤ pos (month_at m)) ≤ℤ (pos 12 *ℤ year_at n +ℤ pos (month_at n))
months-rise m n h =
    months_in_order (year_at m) (year_at n) (month_at m) (month_at n) (year_at-rises m n h) (month_at-rises m n h) (month_at-range m).1 (month_at-range n).0
