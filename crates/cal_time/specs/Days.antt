-- Laws for callers: numbered days as days of the calendar, how they follow one another, and their
-- period of 400 years.
use Rattle.std.proofs.Common.{◌≡◌, ℕ, zero, suc, ◌+◌, ◌-◌, ◌%◌, ◌<◌, ◌≤◌, ◌↔◌, refl, sym, ap, ◌∙◌, subst, arith, ℤ, pos, ◌+ℤ◌}
use Rattle.std.proofs.lemmas.Bool.Decides.{nat_tests}
use Rattle.std.proofs.lemmas.Int.{ints}
use Rattle.cal_units.specs.Lengths.{is_leap_year, days_in_month}
use Rattle.cal_date.specs.CalendarDay.{CalendarDay, calendar_day, day_after}
pub use Rattle.cal_date.specs.CountLaws.{day_at-suc}
use Rattle.cal_date.specs.CountLaws.{days_of_years, days_of_years-closed, days_before, year_start, years_before}
use Rattle.cal_date.specs.Date.{first_year, last_year, last_day, day_at, year_at, month_at, day_of_month_at, ordinal_at, weekday_at, IsDate, IsYear, IsDayOfMonth, HasCalendarDate}
use Rattle.cal_date.specs.Order.{IsBefore, calendar_date_at}
use Rattle.cal_date.specs.PackedDate.{ordinal_number}
use Rattle.cal_date.proofs.Calendar.{ordinal_in, stands_at, in_month_of, day_of_month-range, IsOrdinal-ordinal_in}
use Rattle.cal_date.proofs.Dates.{in_range, stands, IsDate-ordinal_number}
use Rattle.cal_date.proofs.Order.{in_order}
use Rattle.cal_date.proofs.Rising.{Rises-calendar_date}
use Rattle.cal_date.proofs.Weekdays.{weekday_at-is}
use Rattle.cal_date.proofs.Years as years

-- m is a month, from 1 for January to 12 for December.
abbrev pub IsMonth : ℕ → Type 0
IsMonth m = (1 ≤ m) × (m ≤ 12)

-- The month of each day is from 1 to 12.
pub month_at-range : (n : ℕ) → IsMonth (month_at n)
month_at-range n = let at = in_month_of n in (omega (arith, at.month_is), omega (arith, at.month_is, at.stands.month))

-- The month of each day has the day's day of the month.
pub day_of_month_at-range : (n : ℕ) → IsDayOfMonth (year_at n) (month_at n) (day_of_month_at n)
day_of_month_at-range n = day_of_month-range n

-- The two laws above for a caller's `#[tactic(auto, using(..))]`, which takes no name with a dash.
pub ruleset ranges = (month_at-range, day_of_month_at-range)

-- A day of the range has a year of the range.
pub year_at-range : (n : ℕ) → IsDate n → IsYear (year_at n)
year_at-range n h = (in_range n (year_at n) (ordinal_at n) h (refl, refl)).year

-- The first day of the range, day 0, is 1 January of the first year, -999999.
pub day_at-first : HasCalendarDate first_year 1 1 0
unfolding day_at
day_at-first = refl

-- The last day of the range is 31 December of the last year, 999999.
pub day_at-last : HasCalendarDate last_year 12 31 last_day
day_at-last = years.day_at-last_day

-- A day of the range that has the calendar date with the year y, the month m and the day d.
pub record IsDayWith (y : ℤ) (m d : ℕ) : Type 0 where
  pub day : ℕ
  pub date : IsDate day
  pub has : HasCalendarDate y m d day

-- Each calendar date with a year of the range is the date of a day of the range.
pub day_with : (y : ℤ) (m d : ℕ) → IsYear y → IsMonth m → IsDayOfMonth y m d → IsDayWith y m d
day_with y m d h f g =
    let i = m - 1 in
    let same : i + 1 ≡ m = omega (arith, f.0) in
    let low : i < 12 = omega (arith, f.0, f.1) in
    let day : IsDayOfMonth y (i + 1) d = subst (λ k. IsDayOfMonth y k d) (sym same) g in
    record {
      day = ordinal_number y (ordinal_in y i d);
      date = IsDate-ordinal_number y (ordinal_in y i d) h (IsOrdinal-ordinal_in y i d h.0 low day);
      has = (stands_at y i d h.0 low day).has ∙ ap (λ k. calendar_day y k d) same;
    }

-- After a day that isn't the last of its month comes the next day of the month.
pub in_month : (y : ℤ) (m d : ℕ) → d < days_in_month y m → day_after (calendar_day y m d) ≡ calendar_day y m (d + 1)
unfolding day_after
in_month y m d h = grind (arith, nat_tests)

-- After the last day of a month before December comes the first day of the next month.
pub past_month : (y : ℤ) (m d : ℕ) → days_in_month y m ≤ d → m < 12 → day_after (calendar_day y m d) ≡ calendar_day y (m + 1) 1
unfolding day_after
past_month y m d h low = grind (arith, nat_tests)

-- After the last day of December comes 1 January of the next year.
pub past_year : (y : ℤ) (m d : ℕ) → days_in_month y m ≤ d → 12 ≤ m → day_after (calendar_day y m d) ≡ calendar_day (y +ℤ pos 1) 1 1
unfolding day_after
past_year y m d h high = grind (arith, nat_tests)

-- The days of a month follow one another: its day j + 1 is j days after its first day.
pub days-follow : (y : ℤ) (m n j : ℕ) → HasCalendarDate y m 1 n → j < days_in_month y m → HasCalendarDate y m (j + 1) (n + j)
days-follow y m n zero e h = let same : n ≡ n + 0 = omega arith in ap day_at (sym same) ∙ e
days-follow y m n (suc j) e h =
    let sums : suc (n + j) ≡ n + suc j = omega arith in
    let days : j + 1 + 1 ≡ suc j + 1 = omega arith in
    ap day_at (sym sums) ∙ day_at-suc (n + j) ∙ ap day_after (days-follow y m n j e (omega arith)) ∙ in_month y m (j + 1) (omega arith) ∙ ap (calendar_day y m) days

-- A month has 28 days or more.
pub days_in_month-least : (y : ℤ) (m : ℕ) → 28 ≤ days_in_month y m
unfolding days_in_month
days_in_month-least y m = grind (arith, nat_tests)

-- The last day of a month is as many days after its first day as the month has other days.
pub last_of : (y : ℤ) (m n : ℕ) → HasCalendarDate y m 1 n → HasCalendarDate y m (days_in_month y m) (n + (days_in_month y m - 1))
last_of y m n e =
    let some = days_in_month-least y m in
    let same : days_in_month y m - 1 + 1 ≡ days_in_month y m = omega arith in
    days-follow y m n (days_in_month y m - 1) e (omega arith) ∙ ap (calendar_day y m) same

-- The next month of the year begins after all days of a month.
pub month-next : (y : ℤ) (m n : ℕ) → m < 12 → HasCalendarDate y m 1 n → HasCalendarDate y (m + 1) 1 (n + days_in_month y m)
month-next y m n low e =
    let some = days_in_month-least y m in
    let sums : suc (n + (days_in_month y m - 1)) ≡ n + days_in_month y m = omega arith in
    ap day_at (sym sums) ∙ day_at-suc _ ∙ ap day_after (last_of y m n e) ∙ past_month y m (days_in_month y m) (omega arith) low

-- The next year begins after all days of December.
pub year-next : (y : ℤ) (n : ℕ) → HasCalendarDate y 12 1 n → HasCalendarDate (y +ℤ pos 1) 1 1 (n + days_in_month y 12)
year-next y n e =
    let some = days_in_month-least y 12 in
    let sums : suc (n + (days_in_month y 12 - 1)) ≡ n + days_in_month y 12 = omega arith in
    ap day_at (sym sums) ∙ day_at-suc _ ∙ ap day_after (last_of y 12 n e) ∙ past_year y 12 (days_in_month y 12) (omega arith) (omega arith)

-- Days have the order of their calendar dates.
pub calendar_dates-in_order : (m n : ℕ) → (m < n) ↔ IsBefore (calendar_date_at m) (calendar_date_at n)
calendar_dates-in_order m n = in_order calendar_date_at Rises-calendar_date m n

-- The year 400 years later is a leap year if and only if this year is.
leap-period : (y : ℤ) → is_leap_year (y +ℤ pos 400) ≡ is_leap_year y
leap-period y = grind (arith, ints, nat_tests)

-- The month 400 years later has as many days as this month.
pub days_in_month-period : (y : ℤ) (m : ℕ) → days_in_month (y +ℤ pos 400) m ≡ days_in_month y m
unfolding days_in_month
days_in_month-period y m = rw (leap-period y) refl

-- The calendar day 400 years later, with the same month and the same day of the month.
abbrev later : CalendarDay → CalendarDay
later d = calendar_day (d.year +ℤ pos 400) d.month d.day

-- The calendar day after a day 400 years later is 400 years after the day's next day.
after-later : (d : CalendarDay) → day_after (later d) ≡ later (day_after d)
unfolding day_after
after-later d =
    let next : (d.year +ℤ pos 400) +ℤ pos 1 ≡ (d.year +ℤ pos 1) +ℤ pos 400 = omega (arith, ints) in
    rw (days_in_month-period d.year d.month, next) (grind (arith, nat_tests))

-- 400 years have 146,097 days: the day that is 146,097 days later has a year that is larger by 400,
-- and the same month and day of the month.
pub day_at-period : (n : ℕ) → HasCalendarDate (year_at n +ℤ pos 400) (month_at n) (day_of_month_at n) (n + 146097)
day_at-period zero =
    let days : days_of_years 400 ≡ 146097 = omega (arith, days_of_years-closed 400) in
    ap day_at (sym days) ∙ (year_start 400).day_is ∙ ap later (sym day_at-first)
day_at-period (suc n) =
    let e : suc (n + 146097) ≡ suc n + 146097 = omega arith in
    ap day_at (sym e) ∙ day_at-suc (n + 146097) ∙ ap day_after (day_at-period n) ∙ after-later (day_at n) ∙ ap later (sym (day_at-suc n))

-- 146,097 days are whole weeks: the day that is 146,097 days later has the same weekday.
pub weekday_at-period : (n : ℕ) → weekday_at (n + 146097) ≡ weekday_at n
weekday_at-period n =
    let same : (n + 146097) % 7 ≡ n % 7 = omega arith in
    weekday_at-is (n + 146097) ∙ same ∙ sym (weekday_at-is n)

-- The day that is 146,097 days later has the same ordinal.
pub ordinal_at-period : (n : ℕ) → ordinal_at (n + 146097) ≡ ordinal_at n
ordinal_at-period n =
    let here = stands n in
    let there = stands (n + 146097) in
    let year : year_at (n + 146097) ≡ year_at n +ℤ pos 400 = ap (λ d. d.year) (day_at-period n) in
    let k = years_before (year_at n) in
    let years : years_before (year_at n +ℤ pos 400) ≡ k + 400 = omega (arith, ints, here.year) in
    omega (arith, here.number_is, there.number_is, here.ordinal.0, there.ordinal.0, ap days_before year, ap days_of_years years, days_of_years-closed k, days_of_years-closed (k + 400))
