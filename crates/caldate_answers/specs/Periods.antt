-- The date or moment a period after another one, and the period or the duration between two.
use Rattle.std.specs.Prelude.{◌≡◌, ℕ, ◌/◌, ◌%◌, ℤ, pos, ◌-ℤ◌, List, ◌++◌, Some, Ok, codes, int_lt, unsigned_abs}
use Rattle.cal_time.specs.Date.{IsDate}
use Rattle.cal_time.specs.DateText.{digits_at_least}
use Rattle.cal_time.specs.SignedDuration.{hour, minute, second}
use Rattle.cal_datetime.specs.DateTime.{IsDateTime, date_time}
use Rattle.cal_datetime.specs.OffsetDateTime.{LocalAndOffset, instant, local_at}
use Rattle.cal_duration.specs.DurationText.{period_text}
use Rattle.cal_duration.specs.Form.{sign_text}
use Rattle.cal_schedule.specs.Period.{Parts, IsDaysLater, days_of, months_of}
use Rattle.cal_schedule.specs.declared.unit.CalendarUnit.TheVariants.{Year}
use Rattle.cal_text.specs.Rfc3339.{fraction_text}
use Rattle.cal_text.specs.declared.any.DateOrMoment.{DateOrMoment}
use Rattle.cal_text.specs.declared.any.DateOrMoment.TheVariants as read
use Rattle.cal_zone.specs.Timeline.{Timeline}
use Rattle.cal_zoned.specs.Day.{IsStart}
use Rattle.cal_zoned.specs.Period.{IsLater}
use Rattle.cal_zoned.specs.Until.{IsPeriodUntil, IsUntilInZone}
use Rattle.cal_zoned.specs.Zoned.{InZone, IsSeen}
use Rattle.caldate_answers.specs.Found.{moment_of}
use Rattle.caldate_answers.specs.declared.request.Clock.{Clock}

-- ---- a period later
-- A date has no clock, so a period with an exact part has no date after it.
pub record IsDayAfter (n : ℕ) (p : Parts) (m : LocalAndOffset) : Type 0 where
  pub day : ℕ
  pub no_clock : p.exact ≡ pos 0
  pub in_range : IsDate day
  pub after : IsDaysLater n (months_of p) (days_of p) day
  pub midnight : m ≡ record { local = date_time day 0; offset = pos 0 }

-- A moment moves by its local date-time, and keeps its offset.
pub record IsMomentAfter (from : LocalAndOffset) (p : Parts) (m : LocalAndOffset) : Type 0 where
  pub local : ℤ
  pub in_range : IsDateTime local
  pub after : IsLater from.local p local
  pub moved : m ≡ record { local = local; offset = from.offset }

abbrev pub IsAfter : DateOrMoment → Parts → LocalAndOffset → Type 0
IsAfter (read.Date form n) p m = IsDayAfter n p m
IsAfter (read.Moment form from) p m = IsMomentAfter from p m

-- ---- the period between two
-- The period from one moment to another, both at the offset of the first. The largest unit is the
-- year.
pub record IsPeriodBetween (from to : LocalAndOffset) (p : Parts) : Type 0 where
  pub in_range : IsDateTime (local_at (instant to) from.offset)
  pub until : IsPeriodUntil Year from.local (local_at (instant to) from.offset) p

-- What the clocks of a zone show. A date is the first moment of its day.
abbrev pub IsInZone : Timeline → DateOrMoment → InZone → Type 0
IsInZone zone (read.Date form n) m = IsStart zone (date_time n 0) (Some m)
IsInZone zone (read.Moment form from) m = IsSeen zone (instant from) (Ok m)

-- The period by the clocks of a zone.
pub record IsPeriodOn (clock : Clock) (from to : DateOrMoment) (p : Parts) : Type 0 where
  pub start : InZone
  pub end : InZone
  pub first : IsInZone clock.zone from start
  pub last : IsInZone clock.zone to end
  pub until : IsUntilInZone clock.policy Year start end p

-- The words are the string of a period.
abbrev pub IsPeriodText : (Parts → Type 0) → List ℕ → Type 0
IsPeriodText IsPeriod words = (p : Parts) × IsPeriod p × (words ≡ period_text p)

-- ---- strings of durations
-- Hours of at least two digits, minutes and seconds, perhaps with a fraction, such as 36:00:00.5.
abbrev pub clock_text : ℕ → List ℕ
clock_text n =
    digits_at_least 2 (n / hour) ++ codes ":" ++ digits_at_least 2 (n % hour / minute) ++ codes ":" ++ digits_at_least 2 (n % minute / second)
    ++ fraction_text (n % second)

abbrev pub hours_text : ℤ → List ℕ
hours_text v = sign_text (int_lt v (pos 0)) ++ clock_text (unsigned_abs v)

-- The duration from one date or moment to another.
abbrev pub duration_from : DateOrMoment → DateOrMoment → ℤ
duration_from from to = instant (moment_of to) -ℤ instant (moment_of from)
