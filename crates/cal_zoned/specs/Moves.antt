-- Date-times in a zone on another date, and the first and the last instant of a unit.
use Rattle.std.specs.Prelude.{◌≡◌, ◌≢◌, ℕ, ◌+◌, pos, ◌-ℤ◌, Option, Some, Result, Ok}
use Rattle.cal_time.specs.Date.{IsDate}
use Rattle.cal_datetime.specs.DateTime.{date_at, date_time, with_date}
use Rattle.cal_schedule.specs.Units.{IsFirstOf, IsLastOf}
use Rattle.cal_schedule.specs.declared.unit.CalendarUnit.{CalendarUnit}
use Rattle.cal_zone.specs.declared.policy.Policy.{Policy}
use Rattle.cal_zone.specs.declared.local_time_error.LocalTimeError.{LocalTimeError}
use Rattle.cal_zoned.specs.Day.{IsStart}
use Rattle.cal_zoned.specs.Resolved.{IsResolved}
use Rattle.cal_zoned.specs.Zoned.{InZone, at_instant, instant_in}

-- The result is a date-time in a zone, moved to day n: the clock keeps its time of day, which the
-- policy resolves. On its own day it is the same date-time.
pub record IsMovedTo (p : Policy) (m : InZone) (n : ℕ) (r : Result InZone LocalTimeError) : Type 0 where
  pub stays : date_at m.moment.local ≡ n → r ≡ Ok m
  pub moved : date_at m.moment.local ≢ n → IsResolved p m.zone (with_date m.moment.local n) r

-- The result is the start of the first day of the unit that a date-time's date is in.
pub record IsStartOf (unit : CalendarUnit) (m : InZone) (r : Option InZone) : Type 0 where
  pub day : ℕ
  pub first : IsFirstOf unit (date_at m.moment.local) day
  pub in_range : IsDate day
  pub start : IsStart m.zone (date_time day 0) r

-- s is the start of the day after the unit that a date-time's date is in.
pub record IsNextStart (unit : CalendarUnit) (m : InZone) (s : InZone) : Type 0 where
  pub day : ℕ
  pub last : IsLastOf unit (date_at m.moment.local) day
  pub next : IsDate (day + 1)
  pub start : IsStart m.zone (date_time (day + 1) 0) (Some s)

-- The end of a unit is a nanosecond before the start of the next day.
abbrev pub end_before : InZone → InZone
end_before s = at_instant s.zone (instant_in s -ℤ pos 1)
