-- Days of the calendar, and the day after a day.
use Rattle.std.specs.Prelude.{ℕ, ◌+◌, Bool, ◌&&◌, ◌==◌, if◌then◌else◌, nat_lt, ℤ, pos, ◌+ℤ◌}
use Rattle.cal_units.specs.Lengths.{days_in_month}

-- A day of the calendar: a year, a month from 1 to 12, and a day of the month from 1.
pub record CalendarDay : Type 0 where
  pub year : ℤ
  pub month : ℕ
  pub day : ℕ

-- The day with this year, month and day of the month.
abbrev pub calendar_day : ℤ → ℕ → ℕ → CalendarDay
calendar_day y m d = record { year = y; month = m; day = d }

-- The day after a day: the next day of the month. After the last day of a month it is the first day
-- of the next month, and after the last day of December the first day of the next year.
unfoldable pub day_after : CalendarDay → CalendarDay
day_after d =
    if nat_lt d.day (days_in_month d.year d.month) then calendar_day d.year d.month (d.day + 1)
    else (if nat_lt d.month 12 then calendar_day d.year (d.month + 1) 1
    else calendar_day (d.year +ℤ pos 1) 1 1)

-- The day is a 1 January.
abbrev pub is_first_of_january : CalendarDay → Bool
is_first_of_january d = (d.month == 1) && (d.day == 1)
