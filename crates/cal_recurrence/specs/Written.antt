-- The text of a recurrence: its parts in a fixed order, without those that have their default.
use Rattle.std.specs.Prelude.{ℕ, ◌==◌, ◌++◌, List, [], ◌∷◌, ℤ, Option, Some, None, codes, decimal, if◌then◌else◌}
use Rattle.std.specs.Fmt.{signed_decimal}
use Rattle.cal_time.specs.Date.{year_at, month_at, day_of_month_at}
use Rattle.cal_time.specs.DateText.{digits_at_least, year_text}
use Rattle.cal_time.specs.Month.{number}
use Rattle.cal_time.specs.Time.{hour_of, minute_of, second_of}
use Rattle.cal_time.specs.declared.Month.{Month}
use Rattle.cal_time.specs.declared.Weekday.{Weekday}
use Rattle.cal_time.specs.declared.Weekday.TheVariants as weekday
use Rattle.cal_datetime.specs.DateTime.{date_at, time_at}
use Rattle.cal_schedule.specs.declared.rule.rule.Frequency.{Frequency}
use Rattle.cal_schedule.specs.declared.rule.rule.Frequency.TheVariants as frequency
use Rattle.cal_schedule.specs.declared.rule.rule.ByDay.{ByDay}
use Rattle.cal_schedule.specs.declared.rule.rule.ByDay.TheVariants.{Every, Nth}
use Rattle.cal_recurrence.specs.declared.clock_unit.ClockUnit.{ClockUnit}
use Rattle.cal_recurrence.specs.declared.clock_unit.ClockUnit.TheVariants as unit
use Rattle.cal_recurrence.specs.declared.date_or_time.DateOrTime.{DateOrTime}
use Rattle.cal_recurrence.specs.declared.date_or_time.DateOrTime.TheVariants.{Date, Local, Utc}
use Rattle.cal_recurrence.specs.declared.recurrence.Recurrence.{Recurrence}
use Rattle.cal_recurrence.specs.declared.recurrence.RuleEnd.{RuleEnd}
use Rattle.cal_recurrence.specs.declared.recurrence.RuleEnd.TheVariants.{Never, Until, Count}

-- ---- words
-- The word of a frequency, such as `MONTHLY`.
abbrev pub frequency_text : Frequency → List ℕ
frequency_text frequency.Daily = codes "DAILY"
frequency_text frequency.Weekly = codes "WEEKLY"
frequency_text frequency.Monthly = codes "MONTHLY"
frequency_text frequency.Yearly = codes "YEARLY"

-- The word of a frequency, or of periods within days, such as `HOURLY`.
abbrev pub period_text : Frequency → Option ClockUnit → List ℕ
period_text f None = frequency_text f
period_text f (Some unit.Hour) = codes "HOURLY"
period_text f (Some unit.Minute) = codes "MINUTELY"
period_text f (Some unit.Second) = codes "SECONDLY"

-- The two letters of a weekday, such as `FR`.
abbrev pub weekday_text : Weekday → List ℕ
weekday_text weekday.Monday = codes "MO"
weekday_text weekday.Tuesday = codes "TU"
weekday_text weekday.Wednesday = codes "WE"
weekday_text weekday.Thursday = codes "TH"
weekday_text weekday.Friday = codes "FR"
weekday_text weekday.Saturday = codes "SA"
weekday_text weekday.Sunday = codes "SU"

-- The number of a month in decimal, from 1 for January.
abbrev pub month_text : Month → List ℕ
month_text month = decimal (number month)

-- A day of the month or the year, a week or a position in decimal, with a sign if it is negative.
abbrev pub position_text : ℤ → List ℕ
position_text position = signed_decimal position

-- A weekday, after its number if it has one, such as `-1FR`.
abbrev pub by_day_text : ByDay → List ℕ
by_day_text (Every weekday) = weekday_text weekday
by_day_text (Nth index weekday) = signed_decimal index ++ weekday_text weekday

-- A day in digits: the year, the month and the day of the month, such as `20241231`.
abbrev pub day_text : ℕ → List ℕ
day_text n = year_text (year_at n) ++ digits_at_least 2 (month_at n) ++ digits_at_least 2 (day_of_month_at n)

-- A reading in digits: its day, `T`, its hour, its minute and its second, such as `20241231T235959`.
abbrev pub reading_text : ℤ → List ℕ
reading_text z = day_text (date_at z) ++ codes "T" ++ digits_at_least 2 (hour_of (time_at z)) ++ digits_at_least 2 (minute_of (time_at z)) ++ digits_at_least 2 (second_of (time_at z))

-- A day or a reading in digits, with `Z` at UTC.
abbrev pub date_or_time_text : DateOrTime → List ℕ
date_or_time_text (Date n) = day_text n
date_or_time_text (Local z) = reading_text z
date_or_time_text (Utc z) = reading_text z ++ codes "Z"

-- ---- parts
-- The part INTERVAL, or nothing for an interval of 1.
abbrev pub interval_text : ℕ → List ℕ
interval_text n = if n == 1 then [] else codes ";INTERVAL=" ++ decimal n

-- The part UNTIL or COUNT, or nothing without an end.
abbrev pub end_text : RuleEnd → List ℕ
end_text Never = []
end_text (Until last) = codes ";UNTIL=" ++ date_or_time_text last
end_text (Count n) = codes ";COUNT=" ++ decimal n

-- The values of a list, each after a mark. The first mark is the name of the part, and the others
-- are commas. An empty list has no text.
abbrev pub list_text : {X : Type 0} → List ℕ → (X → List ℕ) → List X → List ℕ
list_text mark text [] = []
list_text mark text (x ∷ xs) = mark ++ text x ++ list_text (codes ",") text xs

-- The part WKST, or nothing for weeks from Monday.
abbrev pub week_start_text : Weekday → List ℕ
week_start_text weekday.Monday = []
week_start_text weekday = codes ";WKST=" ++ weekday_text weekday

-- ---- the whole
-- The text of a recurrence: its frequency, interval and end, its lists, and the start of its weeks.
abbrev pub text_of : Recurrence → List ℕ
text_of r =
    codes "FREQ=" ++ period_text r.pattern.frequency r.times.clock ++ interval_text r.pattern.interval ++ end_text r.end
    ++ list_text (codes ";BYMONTH=") month_text r.pattern.months ++ list_text (codes ";BYWEEKNO=") position_text r.pattern.weeks ++ list_text (codes ";BYYEARDAY=") position_text r.pattern.year_days
    ++ list_text (codes ";BYMONTHDAY=") position_text r.pattern.month_days
    ++ list_text (codes ";BYDAY=") by_day_text r.pattern.weekdays
    ++ list_text (codes ";BYHOUR=") decimal r.times.hours ++ list_text (codes ";BYMINUTE=") decimal r.times.minutes ++ list_text (codes ";BYSECOND=") decimal r.times.seconds
    ++ list_text (codes ";BYSETPOS=") position_text r.pattern.set_positions
    ++ week_start_text r.pattern.week_start
