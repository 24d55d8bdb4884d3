use Rattle.std.proofs.Common.{◌≡◌, ℕ, ℤ, ap, arith}
use Rattle.std.proofs.lemmas.Int.{ints}
use Rattle.cal_time.specs.Date.{year_at, month_at, day_of_month_at, HasCalendarDate}
use Rattle.cal_time.specs.Days.{month_at-range, day_of_month_at-range, year_at-range}
use Rattle.cal_schedule.proofs.day_number.month_number_and_day.Goals as goal

-- The components of a day with a calendar date.
record Parts (n : ℕ) (y : ℤ) (m d : ℕ) : Type 0 where
  year : year_at n ≡ y
  month : month_at n ≡ m
  day : day_of_month_at n ≡ d

parts : (n : ℕ) (y : ℤ) (m d : ℕ) → HasCalendarDate y m d n → Parts n y m d
parts n y m d has = record { year = ap (λ k. k.year) has; month = ap (λ k. k.month) has; day = ap (λ k. k.day) has }

pub overflow_sub-month : goal.overflow_sub-month
overflow_sub-month c = omega (arith, (parts _ _ _ _ c.to_calendar_date-year.ensures.value).month, (month_at-range c.args.number).0)

pub month_index-requires-clause-year : goal.month_index-requires-clause-year
month_index-requires-clause-year c =
    let year = year_at-range c.args.number c.requires in
    let is = (parts _ _ _ _ c.to_calendar_date-year.ensures.value).year in
    (omega (arith, ints, year.0, year.1, is), omega (arith, ints, year.0, year.1, is))

pub returns-clause-month : goal.returns-clause-month
returns-clause-month c =
    let p = parts _ _ _ _ c.to_calendar_date-year.ensures.value in
    let year = year_at-range c.args.number c.requires in
    omega (arith, ints, c.month_index.ensures.value, p.year, p.month, year.0, year.1, (month_at-range c.args.number).0)

pub returns-clause-first : goal.returns-clause-first
returns-clause-first c = omega (arith, (parts _ _ _ _ c.to_calendar_date-year.ensures.value).day, (day_of_month_at-range c.args.number).0)
