-- Laws for callers: the days of a month, and the months one after another.
use Rattle.std.proofs.Common.{◌≡◌, ℕ, ◌+◌, ◌-◌, ◌≤◌, sym, ap, ◌∙◌, arith, ℤ, pos, ◌+ℤ◌, ◌-ℤ◌, ◌*ℤ◌, ◌≤ℤ◌, inl, inr}
use Rattle.std.proofs.lemmas.Bool.{cases_lt}
use Rattle.std.proofs.lemmas.Int.{ints}
use Rattle.cal_time.specs.CalendarDay.{calendar_day}
use Rattle.cal_time.specs.Components.{day_of_month_at-rises, months-rise}
use Rattle.cal_time.specs.Date.{year_at, month_at, day_of_month_at, IsDate, HasCalendarDate}
use Rattle.cal_time.specs.Days.{month_at-range, day_of_month_at-range, year_at-range, days-follow, day_with}
use Rattle.cal_time.specs.Lengths.{days_in_month}
use Rattle.cal_schedule.specs.Months.{month_number_at}

-- The month of a later day doesn't have a smaller number.
pub month_numbers-rise : (m n : ℕ) → m ≤ n → month_number_at m ≤ℤ month_number_at n
month_numbers-rise m n h = omega (arith, ints, months-rise m n h)

-- Days m and n are in the same month of the same year.
pub record IsSameMonth (m n : ℕ) : Type 0 where
  pub year : year_at m ≡ year_at n
  pub month : month_at m ≡ month_at n

-- Days whose months have the same number are in the same month of the same year.
pub same_month : (m n : ℕ) → month_number_at m ≡ month_number_at n → IsSameMonth m n
same_month m n e =
    let a = month_at-range m in
    let b = month_at-range n in
    record { year = omega (arith, ints, a.0, a.1, b.0, b.1, e); month = omega (arith, ints, a.0, a.1, b.0, b.1, e) }

-- Two days of the same month with the same day of the month are the same day.
pub one_day : (m n : ℕ) → IsSameMonth m n → day_of_month_at m ≡ day_of_month_at n → m ≡ n
one_day m n same e =
    elim (cases_lt m n) as (λ _. m ≡ n) [
      | inl less ↦ absurd (omega (arith, day_of_month_at-rises m n less same.year same.month))
      | inr most ↦ elim (cases_lt n m) as (λ _. m ≡ n) [
        | inl more ↦ absurd (omega (arith, day_of_month_at-rises n m more (sym same.year) (sym same.month)))
        | inr least ↦ omega arith
      ]
    ]

-- The first day f of the month of day n is before n by the day of the month of n, less 1.
pub first_before : (f n : ℕ) → HasCalendarDate (year_at n) (month_at n) 1 f → f + day_of_month_at n ≡ n + 1
first_before f n e =
    let d = day_of_month_at-range n in
    let same : day_of_month_at n - 1 + 1 ≡ day_of_month_at n = omega (arith, d.0) in
    let at : HasCalendarDate (year_at n) (month_at n) (day_of_month_at n) (f + (day_of_month_at n - 1)) =
    days-follow (year_at n) (month_at n) f (day_of_month_at n - 1) e (omega (arith, d.0, d.1)) ∙ ap (calendar_day (year_at n) (month_at n)) same in
    let one = one_day (f + (day_of_month_at n - 1)) n (record { year = ap (λ c. c.year) at; month = ap (λ c. c.month) at }) (ap (λ c. c.day) at) in
    omega (arith, d.0)

-- The distance of two days of the range in one month is the difference of their days of the month.
pub days_apart : (m n : ℕ) → IsDate m → month_number_at m ≡ month_number_at n → m + day_of_month_at n ≡ n + day_of_month_at m
days_apart m n h e =
    let same = same_month m n e in
    let first = day_with (year_at m) (month_at m) 1 (year_at-range m h) (month_at-range m) (omega arith, omega (arith, (day_of_month_at-range m).0, (day_of_month_at-range m).1)) in
    let other : HasCalendarDate (year_at n) (month_at n) 1 first.day =
    first.has ∙ ap (λ y. calendar_day y (month_at m) 1) same.year ∙ ap (λ i. calendar_day (year_at n) i 1) same.month in
    omega (arith, first_before first.day m first.has, first_before first.day n other)

-- The month of a day with the year y and the month m has the number 12 times y, plus m, less 1.
pub number_from : (n : ℕ) (y : ℤ) (m d : ℕ) → HasCalendarDate y m d n → month_number_at n ≡ y *ℤ pos 12 +ℤ pos m -ℤ pos 1
number_from n y m d e = ap (λ day. day.year *ℤ pos 12 +ℤ pos day.month -ℤ pos 1) e

-- The first day of a month is not after any day of this month or a later one.
pub first-least : (r n : ℕ) (y : ℤ) (m : ℕ) → HasCalendarDate y m 1 r → (y *ℤ pos 12 +ℤ pos m -ℤ pos 1) ≤ℤ month_number_at n → r ≤ n
first-least r n y m e h =
    let month = number_from r y m 1 e in
    elim (cases_lt n r) as (λ _. r ≤ n) [
      | inl less ↦
          let same = same_month n r (omega (arith, ints, h, month, month_numbers-rise n r (omega arith))) in
          absurd (omega (arith, day_of_month_at-rises n r less same.year same.month, (day_of_month_at-range n).0, ap (λ c. c.day) e))
      | inr most ↦ most
    ]

-- The last day of a month is not before any day of this month or an earlier one.
pub last-greatest : (r n : ℕ) (y : ℤ) (m : ℕ) → HasCalendarDate y m (days_in_month y m) r → month_number_at n ≤ℤ (y *ℤ pos 12 +ℤ pos m -ℤ pos 1) → n ≤ r
last-greatest r n y m e h =
    let month = number_from r y m (days_in_month y m) e in
    elim (cases_lt r n) as (λ _. n ≤ r) [
      | inl less ↦
          let same = same_month r n (omega (arith, ints, h, month, month_numbers-rise r n (omega arith))) in
          let length : days_in_month y m ≡ days_in_month (year_at n) (month_at n) =
          ap (λ z. days_in_month z m) (sym (ap (λ c. c.year) e) ∙ same.year) ∙ ap (days_in_month (year_at n)) (sym (ap (λ c. c.month) e) ∙ same.month) in
          absurd (omega (arith, day_of_month_at-rises r n less same.year same.month, (day_of_month_at-range n).1, ap (λ c. c.day) e))
      | inr most ↦ most
    ]
