use Rattle.std.proofs.Common.{rules, arith, ◌≡◌, ℕ, ◌+◌, ◌<◌, ◌≤◌, ℤ, Option, Some, None, inl, inr, sym, ap}
use Rattle.std.proofs.lemmas.Bool.{cases_lt}
use Rattle.std.specs.Prelude.{IfSome, IfNone, IsSome}
use Rattle.cal_time.specs.Date.{year_at, month_at, weekday_at, HasCalendarDate, IsDate}
use Rattle.cal_time.specs.Days.{day_with, days-follow, month_at-range, year_at-range}
use Rattle.cal_time.specs.Laws.{prev_occurrence-some, weekday_at-is}
use Rattle.cal_time.specs.Lengths.{days_in_month}
use Rattle.cal_time.specs.Month.{number}
use Rattle.cal_time.specs.Components.{day_of_month_at-rises}
use Rattle.cal_schedule.proofs.Ends.{days_in_month-least}
use Rattle.guide.proofs.callers.last_friday.Goals as goal

-- of a week that ends on another weekday, a Friday is not the day before it
within : (n t : ℕ) → weekday_at n ≡ 4 → ¬ (weekday_at t ≡ 4) → t ≤ n + 7 → t < n + 7
within n t friday other most = omega (arith, weekday_at-is n, weekday_at-is t)

before : (y : ℤ) (m d t : ℕ) (r : Option ℕ) → HasCalendarDate y m d t → ¬ (weekday_at t ≡ 4)
    → IfSome r (λ n. weekday_at n ≡ 4) → IfSome r (λ n. (n < t) × (t ≤ n + 7))
    → IfSome r (λ n. (weekday_at n ≡ 4) × (x : ℕ) × HasCalendarDate y m d x × (n ≤ x) × (x < n + 7))
before y m d t None has other friday near = search rules
before y m d t (Some n) has other friday near = (friday, t, has, omega (arith, near.0), within n t friday other near.1)

-- before the last day of a month there are 27 days of that month
late : (y : ℤ) (m t : ℕ) → IsDate t → HasCalendarDate y m (days_in_month y m) t → 27 ≤ t
late y m t is has =
    let least = days_in_month-least (year_at t) (month_at t) in
    let first = day_with (year_at t) (month_at t) 1 (year_at-range t is) (month_at-range t) (omega arith, omega (arith, least)) in
    let later = days-follow (year_at t) (month_at t) first.day 27 first.has (omega (arith, least)) in
    elim (cases_lt t (first.day + 27)) [
      | inl less ↦ absurd (omega (arith, day_of_month_at-rises t (first.day + 27) less (sym (ap (λ c. c.year) later)) (sym (ap (λ c. c.month) later)), ap (λ c. c.day) later, ap (λ c. c.day) has, days_in_month-least y m))
      | inr most ↦ omega arith
    ]

there : (P : Type 0) (r s : Option ℕ) → r ≡ s → IsSome s → IfNone r P
there P None None e some = search rules
there P None (Some n) e some = absurd (cc)
there P (Some m) s e some = search rules

pub returns-else-eq-clause-found : goal.returns-else-eq-clause-found
returns-else-eq-clause-found c =
    let has : HasCalendarDate c.args.year (number c.args.month) (days_in_month c.args.year (number c.args.month)) c.in-Ok.last = search rules in
    let other : ¬ (weekday_at c.in-Ok.last ≡ 4) = search rules in
    before _ _ _ _ _ has other c.checked_prev_occurrence.ensures.weekday c.checked_prev_occurrence.ensures.range

pub returns-else-eq-clause-none : goal.returns-else-eq-clause-none
returns-else-eq-clause-none c =
    let has : HasCalendarDate c.args.year (number c.args.month) (days_in_month c.args.year (number c.args.month)) c.in-Ok.last = search rules in
    let most = late _ _ c.in-Ok.last c.weekday.ensures.in_range has in
    there _ _ _ c.checked_prev_occurrence.ensures.value (prev_occurrence-some 4 c.in-Ok.last 1 (omega arith) (omega arith) (omega arith))
