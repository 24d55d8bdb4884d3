-- The first and the last days of months and weeks.
use Rattle.std.proofs.Common.{◌≡◌, ℕ, ◌+◌, ap, subst, arith, ℤ}
use Rattle.std.proofs.lemmas.Bool.Decides.{nat_tests}
use Rattle.cal_time.specs.Date.{year_at, month_at, day_of_month_at, weekday_at, IsDate, HasCalendarDate}
-- A month has 28 days or more.
pub use Rattle.cal_time.specs.Days.{days_in_month-least}
use Rattle.cal_time.specs.IsoWeekDate.{iso_year_at, iso_week_at, thursday_of, weekday_count, HasIsoWeekDate}
use Rattle.cal_time.specs.Laws.{weekday_at-is}
use Rattle.cal_time.specs.Lengths.{days_in_month}
use Rattle.cal_schedule.specs.MonthLaws.{days_apart, number_from}

pub ruleset lengths = (days_in_month-least)

-- December has 31
pub december : (y : ℤ) → days_in_month y 12 ≡ 31
unfolding days_in_month
december y = grind (arith, nat_tests)

-- the last of a month, by another name of the year and the month
pub last-same : (y z : ℤ) (m k n : ℕ) → y ≡ z → m ≡ k → HasCalendarDate y m (days_in_month y m) n → HasCalendarDate z k (days_in_month z k) n
last-same y z m k n e f h = subst (λ i. HasCalendarDate z i (days_in_month z i) n) f (subst (λ x. HasCalendarDate x m (days_in_month x m) n) e h)

-- it comes as many days after a day of its month as are left
pub last-apart : (r n : ℕ) → IsDate r → HasCalendarDate (year_at n) (month_at n) (days_in_month (year_at n) (month_at n)) r
    → r + day_of_month_at n ≡ n + days_in_month (year_at n) (month_at n)
last-apart r n h e = omega (arith, days_apart r n h (number_from r _ _ _ e), ap (λ c. c.day) e)

-- Two days are in the same week if their difference is the difference of their weekdays.
pub same_week : (r n w : ℕ) → weekday_at r ≡ w → r + weekday_at n ≡ n + w → HasIsoWeekDate (iso_year_at n) (iso_week_at n) w r
unfolding iso_year_at iso_week_at
same_week r n w e h =
    let thursday : thursday_of r ≡ thursday_of n = omega (arith, weekday_at-is r, weekday_at-is n) in
    (ap year_at thursday, ap (weekday_count 3) thursday, e)
