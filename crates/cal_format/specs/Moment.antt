-- The numbers that items show of a value. A value is a moment: a day, a time of day and an offset.
use Rattle.std.specs.Prelude.{ℕ, ◌+◌, ◌/◌, ◌%◌, ℤ, pos, ◌+ℤ◌, ◌-ℤ◌, ◌*ℤ◌, unsigned_abs, int_lt, if◌then◌else◌}
use Rattle.cal_units.specs.declared.error.Component.{Component as Named}
use Rattle.cal_units.specs.declared.error.Component.TheVariants as error
use Rattle.cal_time.specs.Date.{IsDate, year_at, month_at, day_of_month_at, ordinal_at, weekday_at}
use Rattle.cal_time.specs.IsoWeekDate.{iso_year_at, iso_week_at, weekday_count}
use Rattle.cal_time.specs.Time.{IsTime, hour_of, minute_of, second_of, nanosecond_of}
use Rattle.cal_time.specs.SignedDuration.{second}
use Rattle.cal_time.specs.UtcOffset.{IsOffset}
use Rattle.cal_datetime.specs.DateTime.{date_at, time_at}
use Rattle.cal_datetime.specs.OffsetDateTime.{LocalAndOffset, epoch_day}
use Rattle.cal_format.specs.declared.item.Component.{Component}
use Rattle.cal_format.specs.declared.item.Component.TheVariants.{Year, Century, YearOfCentury, IsoYear, Month, Day, Ordinal, IsoWeek, Weekday, DaysFromMonday, DaysFromSunday, SundayWeekday, SundayWeek, MondayWeek, Hour, Hour12, Minute, Second, Period, Subsecond1, Subsecond2, Millisecond, Subsecond4, Subsecond5, Microsecond, Subsecond7, Subsecond8, Nanosecond, OffsetHour, OffsetMinute, OffsetSecond, OffsetSign, Timestamp, TimestampSign}
use Rattle.cal_format.specs.declared.item.Padding.{Padding}
use Rattle.cal_format.specs.declared.item.Padding.TheVariants as padding
use Rattle.cal_format.specs.declared.moment.Moment.{Moment}

-- Its day, its time of day and its offset are in their ranges.
pub record IsMoment (v : Moment) : Type 0 where
  pub date : IsDate v.date
  pub time : IsTime v.time
  pub offset : IsOffset v.offset

-- A day, a time of day, a date-time, an offset and a date-time at an offset as moments. The parts
-- that they don't have are 0.
abbrev pub moment_of_date : ℕ → Moment
moment_of_date n = record { date = n; time = 0; offset = pos 0 }

abbrev pub moment_of_time : ℕ → Moment
moment_of_time t = record { date = 0; time = t; offset = pos 0 }

abbrev pub moment_of_date_time : ℤ → Moment
moment_of_date_time z = record { date = date_at z; time = time_at z; offset = pos 0 }

abbrev pub moment_of_offset : ℤ → Moment
moment_of_offset o = record { date = 0; time = 0; offset = o }

abbrev pub moment_of_offset_date_time : LocalAndOffset → Moment
moment_of_offset_date_time m = record { date = date_at m.local; time = time_at m.local; offset = m.offset }

-- The Unix time in seconds, rounded down: 86400 for each day since 1970-01-01, and the seconds of
-- the day at UTC (POSIX, seconds since the epoch).
abbrev pub timestamp_of : Moment → ℤ
timestamp_of v = (pos v.date -ℤ epoch_day) *ℤ pos 86_400 +ℤ pos (v.time / second) -ℤ v.offset

-- The number of a component. Years, Unix times and offsets have a sign of their own.
abbrev pub number : Component → Moment → ℕ
number Year v = unsigned_abs (year_at v.date)
number Century v = unsigned_abs (year_at v.date) / 100
number YearOfCentury v = unsigned_abs (year_at v.date) % 100
number IsoYear v = unsigned_abs (iso_year_at v.date)
number Month v = month_at v.date
number Day v = day_of_month_at v.date
number Ordinal v = ordinal_at v.date
number IsoWeek v = iso_week_at v.date
number Weekday v = weekday_at v.date + 1
number DaysFromMonday v = weekday_at v.date
number DaysFromSunday v = (weekday_at v.date + 1) % 7
number SundayWeekday v = (weekday_at v.date + 1) % 7 + 1
number SundayWeek v = weekday_count 6 v.date
number MondayWeek v = weekday_count 0 v.date
number Hour v = hour_of v.time
number Hour12 v = (hour_of v.time + 11) % 12 + 1
number Minute v = minute_of v.time
number Second v = second_of v.time
number Period v = hour_of v.time / 12
number Subsecond1 v = nanosecond_of v.time / 100_000_000
number Subsecond2 v = nanosecond_of v.time / 10_000_000
number Millisecond v = nanosecond_of v.time / 1_000_000
number Subsecond4 v = nanosecond_of v.time / 100_000
number Subsecond5 v = nanosecond_of v.time / 10_000
number Microsecond v = nanosecond_of v.time / 1_000
number Subsecond7 v = nanosecond_of v.time / 100
number Subsecond8 v = nanosecond_of v.time / 10
number Nanosecond v = nanosecond_of v.time
number OffsetHour v = unsigned_abs v.offset / 3_600
number OffsetMinute v = unsigned_abs v.offset / 60 % 60
number OffsetSecond v = unsigned_abs v.offset % 60
number OffsetSign v = if int_lt v.offset (pos 0) then 1 else 0
number Timestamp v = unsigned_abs (timestamp_of v)
number TimestampSign v = if int_lt (timestamp_of v) (pos 0) then 1 else 0

-- The width of a component in digits, its range, and its name in an error.
pub record Facts : Type 0 where
  pub width : ℕ
  pub minimum : ℕ
  pub maximum : ℕ
  pub named : Named

abbrev pub facts : ℕ → ℕ → ℕ → Named → Facts
facts w least most name = record { width = w; minimum = least; maximum = most; named = name }

abbrev pub facts_of : Component → Facts
facts_of Year = facts 4 0 9_999 error.Year
facts_of Century = facts 2 0 99 error.Year
facts_of YearOfCentury = facts 2 0 99 error.Year
facts_of IsoYear = facts 4 0 9_999 error.Year
facts_of Month = facts 2 1 12 error.Month
facts_of Day = facts 2 1 31 error.Day
facts_of Ordinal = facts 3 1 366 error.Ordinal
facts_of IsoWeek = facts 2 1 53 error.Week
facts_of Weekday = facts 1 1 7 error.Weekday
facts_of DaysFromMonday = facts 1 0 6 error.Weekday
facts_of DaysFromSunday = facts 1 0 6 error.Weekday
facts_of SundayWeekday = facts 1 1 7 error.Weekday
facts_of SundayWeek = facts 2 0 53 error.Week
facts_of MondayWeek = facts 2 0 53 error.Week
facts_of Hour = facts 2 0 23 error.Hour
facts_of Hour12 = facts 2 1 12 error.Hour
facts_of Minute = facts 2 0 59 error.Minute
facts_of Second = facts 2 0 59 error.Second
facts_of Period = facts 1 0 1 error.Hour
facts_of Subsecond1 = facts 1 0 9 error.Nanosecond
facts_of Subsecond2 = facts 2 0 99 error.Nanosecond
facts_of Millisecond = facts 3 0 999 error.Millisecond
facts_of Subsecond4 = facts 4 0 9_999 error.Nanosecond
facts_of Subsecond5 = facts 5 0 99_999 error.Nanosecond
facts_of Microsecond = facts 6 0 999_999 error.Microsecond
facts_of Subsecond7 = facts 7 0 9_999_999 error.Nanosecond
facts_of Subsecond8 = facts 8 0 99_999_999 error.Nanosecond
facts_of Nanosecond = facts 9 0 999_999_999 error.Nanosecond
facts_of OffsetHour = facts 2 0 25 error.OffsetHour
facts_of OffsetMinute = facts 2 0 59 error.OffsetMinute
facts_of OffsetSecond = facts 2 0 59 error.OffsetSecond
facts_of OffsetSign = facts 1 0 1 error.OffsetHour
facts_of Timestamp = facts 9 0 99_999_999_999_999 error.Timestamp
facts_of TimestampSign = facts 1 0 1 error.Timestamp

abbrev pub width : Component → ℕ
width c = (facts_of c).width

-- A Unix time without padding may have more digits.
abbrev pub most_digits : Component → ℕ
most_digits Timestamp = 14
most_digits c = width c

abbrev pub width_of : Padding → Component → ℕ
width_of padding.None c = most_digits c
width_of _ c = width c
