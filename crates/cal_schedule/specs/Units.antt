-- The day, the ISO week, the month, the quarter and the year of a day (ISO 8601).
use Rattle.std.specs.Prelude.{◌≡◌, ℕ, ◌+◌, ◌-◌, ◌*◌, ◌<◌, ◌≤◌, ℤ, pos, neg_ℤ, ◌≤ℤ◌}
use Rattle.cal_time.specs.Date.{year_at, month_at, weekday_at, HasCalendarDate}
use Rattle.cal_time.specs.Lengths.{days_in_month}
use Rattle.cal_schedule.specs.declared.unit.CalendarUnit.{CalendarUnit}
use Rattle.cal_schedule.specs.declared.unit.CalendarUnit.TheVariants.{Day, Week, Month, Quarter, Year}
use Rattle.cal_schedule.specs.Months.{quarter_at}
use Rattle.cal_schedule.specs.Period.{IsDaysLater, IsOneSign, Parts, days_of, months_of}
use Rattle.cal_schedule.specs.Until.{IsGreatest, IsLeast, IsMonthsBackTo, IsMonthsUpTo}

-- Day r is the first day of the unit that day n is in.
abbrev pub IsFirstOf : CalendarUnit → ℕ → ℕ → Type 0
IsFirstOf Day n r = r ≡ n
IsFirstOf Week n r = r + weekday_at n ≡ n
IsFirstOf Month n r = HasCalendarDate (year_at n) (month_at n) 1 r
IsFirstOf Quarter n r = HasCalendarDate (year_at n) (3 * quarter_at n - 2) 1 r
IsFirstOf Year n r = HasCalendarDate (year_at n) 1 1 r

-- Day r is the last day of the unit that day n is in.
abbrev pub IsLastOf : CalendarUnit → ℕ → ℕ → Type 0
IsLastOf Day n r = r ≡ n
IsLastOf Week n r = r + weekday_at n ≡ n + 6
IsLastOf Month n r = HasCalendarDate (year_at n) (month_at n) (days_in_month (year_at n) (month_at n)) r
IsLastOf Quarter n r = HasCalendarDate (year_at n) (3 * quarter_at n) (days_in_month (year_at n) (3 * quarter_at n)) r
IsLastOf Year n r = HasCalendarDate (year_at n) 12 31 r

-- The months are as many as fit from day n to day t, or none if the unit is shorter.
abbrev pub HasMostMonths : CalendarUnit → ℕ → ℕ → ℤ → Type 0
HasMostMonths Day n t m = m ≡ pos 0
HasMostMonths Week n t m = m ≡ pos 0
HasMostMonths unit n t m = (n ≤ t → IsGreatest (IsMonthsUpTo n t) m) × (t < n → IsLeast (IsMonthsBackTo n t) m)

-- A period has no part above a unit, and a part below it is less than the next larger part. It has
-- weeks only if they are the unit.
abbrev pub IsCountedBy : CalendarUnit → Parts → Type 0
IsCountedBy Day p = (p.years ≡ pos 0) × (p.months ≡ pos 0) × (p.weeks ≡ pos 0)
IsCountedBy Week p = (p.years ≡ pos 0) × (p.months ≡ pos 0) × (neg_ℤ (pos 6) ≤ℤ p.days) × (p.days ≤ℤ pos 6)
IsCountedBy Month p = (p.years ≡ pos 0) × (p.weeks ≡ pos 0)
IsCountedBy Quarter p = (p.years ≡ pos 0) × (p.weeks ≡ pos 0)
IsCountedBy Year p = (neg_ℤ (pos 11) ≤ℤ p.months) × (p.months ≤ℤ pos 11) × (p.weeks ≡ pos 0)

-- Day t is a period of dates after day n, counted in a unit and the smaller ones.
pub record IsUntilBy (unit : CalendarUnit) (n t : ℕ) (p : Parts) : Type 0 where
  pub leads : IsDaysLater n (months_of p) (days_of p) t
  pub most : HasMostMonths unit n t (months_of p)
  pub counted : IsCountedBy unit p
  pub one_sign : IsOneSign p
  pub no_clock : p.exact ≡ pos 0
