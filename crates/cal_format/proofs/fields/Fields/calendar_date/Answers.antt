use Rattle.std.proofs.Common.{ℕ, ◌≤◌, ap, arith}
use Rattle.std.specs.Prelude.{pos}
use Rattle.cal_time.specs.Date.{year_at, month_at, HasCalendarDate}
use Rattle.cal_time.specs.Days.{month_at-range, day_of_month_at-range}
use Rattle.cal_format.proofs.Lengths.{days_in_month-most}
use Rattle.cal_format.proofs.fields.Fields.calendar_date.Goals as goal

-- A date has a month below 100 and a day below 100.
month-most : (y m d n : ℕ) → HasCalendarDate (pos y) m d n → m ≤ 99
month-most y m d n h = omega (arith, (month_at-range n).1, ap (λ day. day.month) h)

day-most : (y m d n : ℕ) → HasCalendarDate (pos y) m d n → d ≤ 99
day-most y m d n h = omega (arith, (day_of_month_at-range n).1, days_in_month-most (year_at n) (month_at n), ap (λ day. day.day) h)

pub returns-then-month-gt99-clause-every : goal.returns-then-month-gt99-clause-every
returns-then-month-gt99-clause-every c = λ n date has. absurd (omega (arith, c.then-month-gt99.either, c.get-month.ensures, c.get-day.ensures, month-most _ _ _ n has, day-most _ _ _ n has))
