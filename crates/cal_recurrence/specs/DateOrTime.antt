-- Dates, and dates with a time of day.
use Rattle.std.specs.Prelude.{ℕ, ◌-◌, ℤ}
use Rattle.cal_time.specs.SignedDuration.{day}
use Rattle.cal_datetime.specs.DateTime.{date_at, date_time}
use Rattle.cal_recurrence.specs.declared.date_or_time.DateOrTime.{DateOrTime}
use Rattle.cal_recurrence.specs.declared.date_or_time.DateOrTime.TheVariants.{Date, Local, Utc}

-- The date of a value.
abbrev pub date_of : DateOrTime → ℕ
date_of (Date n) = n
date_of (Local z) = date_at z
date_of (Utc z) = date_at z

-- The reading of a value, or the last reading of a date.
abbrev pub last_reading : DateOrTime → ℤ
last_reading (Date n) = date_time n (day - 1)
last_reading (Local z) = z
last_reading (Utc z) = z
