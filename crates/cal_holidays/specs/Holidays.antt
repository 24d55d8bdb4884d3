-- Holidays by rules: a day in each year, moved by its weekday.
use Rattle.std.specs.Prelude.{◌≡◌, ℕ, ◌+◌, ◌<◌, ◌≤◌, ◌↔◌, ℤ, pos, ◌+ℤ◌, ◌≤ℤ◌, Bool, List, length, Contains, slice_index_or}
use Rattle.cal_time.specs.Counted.{IsRising}
use Rattle.cal_time.specs.Date.{IsDate, IsYear, HasCalendarDate, julian_day_at, weekday_at}
use Rattle.cal_time.specs.Month.{number}
use Rattle.cal_time.specs.Weekday.{index}
use Rattle.cal_schedule.specs.Weekdays.{IsNthWeekday, IsLastWeekday}
use Rattle.cal_schedule.specs.Workdays.{WorkWeek}
use Rattle.cal_holidays.specs.Easter.{IsEaster, IsJulianEaster}
use Rattle.cal_holidays.specs.declared.holiday_day.HolidayDay.{HolidayDay}
use Rattle.cal_holidays.specs.declared.holiday_day.HolidayDay.TheVariants.{Fixed, Nth, Last, OnOrAfter, Easter, JulianEaster}
use Rattle.cal_holidays.specs.declared.holiday_rule.HolidayRule.{HolidayRule}

-- Day n is the first day with the weekday w on or after the day d of the month m of the year y.
pub record IsOnOrAfter (y : ℤ) (m d w n : ℕ) : Type 0 where
  pub start : ℕ
  pub range : IsDate start
  pub start_is : HasCalendarDate y m d start
  pub from : start ≤ n
  pub within : n < start + 7
  pub weekday : weekday_at n ≡ w

-- Day n is some days after a day that has a property, or before it if the number is negative.
pub record IsDaysAfter (Has : ℕ → Type 0) (days : ℤ) (n : ℕ) : Type 0 where
  pub start : ℕ
  pub range : IsDate start
  pub has : Has start
  pub days_after : pos n ≡ pos start +ℤ days

-- Day n is the day of the year y.
abbrev pub IsDayOf : HolidayDay → ℤ → ℕ → Type 0
IsDayOf (Fixed m d) y n = HasCalendarDate y (number m) d n
IsDayOf (Nth m w k) y n = IsNthWeekday y (number m) (index w) k n
IsDayOf (Last m w) y n = IsLastWeekday y (number m) (index w) n
IsDayOf (OnOrAfter m d w) y n = IsOnOrAfter y (number m) d (index w) n
IsDayOf (Easter days) y n = IsDaysAfter (IsEaster y) days n
IsDayOf (JulianEaster days) y n = IsDaysAfter (IsJulianEaster y) days n

-- Day n of the range is the holiday of a rule for the year y: the rule is in force, and the holiday
-- is the day of the year, moved by the days for its weekday.
pub record IsHolidayFor (rule : HolidayRule) (y : ℤ) (n : ℕ) : Type 0 where
  pub in_range : IsDate n
  pub year : IsYear y
  pub not_before : rule.first_year ≤ℤ y
  pub not_after : y ≤ℤ rule.last_year
  pub day : ℕ
  pub range : IsDate day
  pub is_day : IsDayOf rule.day y day
  pub moved : pos n ≡ pos day +ℤ slice_index_or rule.moves (weekday_at day) (pos 0)

-- Day n is the holiday of one of the rules for the year y.
pub record IsHolidayOfYear (rules : List HolidayRule) (y : ℤ) (n : ℕ) : Type 0 where
  pub rule : HolidayRule
  pub among : Contains rules rule
  pub is : IsHolidayFor rule y n

-- Day n is a day from one day through another, and the holiday of one of the rules for some year.
pub record IsHoliday (rules : List HolidayRule) (first last n : ℕ) : Type 0 where
  pub from : first ≤ n
  pub through : n ≤ last
  pub year : ℤ
  pub is : IsHolidayOfYear rules year n

-- The days are the holidays from one day through another, in ascending order and each once.
pub record AreHolidays (rules : List HolidayRule) (first last : ℕ) (days : List ℕ) : Type 0 where
  pub rising : IsRising julian_day_at days
  pub each : (n : ℕ) → Contains days n ↔ IsHoliday rules first last n

-- The week has these marks, and the holidays of the rules from one day through another.
pub record AreWorkdays (marks : List Bool) (rules : List HolidayRule) (first last : ℕ) (week : WorkWeek) : Type 0 where
  pub marks_are : week.marks ≡ marks
  pub holidays : AreHolidays rules first last week.holidays

-- More than some number of days have a property.
pub record AreMore (Has : ℕ → Type 0) (most : ℕ) : Type 0 where
  pub days : List ℕ
  pub rising : IsRising julian_day_at days
  pub more : most < length days
  pub each : (n : ℕ) → Contains days n → Has n
