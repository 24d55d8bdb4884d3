-- Moments for C: a date, a time of day and an offset, each as its number.
use Rattle.std.specs.Prelude.{◌≡◌, ℤ}
use Rattle.cal_time.specs.Date.{julian_day_at}
use Rattle.cal_time.specs.Time.{IsTime}
use Rattle.cal_time.specs.UtcOffset.{IsOffset}
use Rattle.cal_datetime.specs.DateTime.{date_time, date_at, time_at, IsDateTime}
use Rattle.cal_datetime.specs.OffsetDateTime.{LocalAndOffset}
use Rattle.cal_c.specs.Results.{no_value}
use Rattle.cal_c.specs.declared.status.TheConstants.{OK}
use Rattle.cal_c.specs.Values.{IsJulianDay, day_of}
use Rattle.cal_c.specs.declared.results.Moment.{Moment}
use Rattle.cal_c.specs.declared.results.MomentResult.{MomentResult}

-- A moment is valid if each of its numbers is.
pub record IsMoment (m : Moment) : Type 0 where
  pub date : IsJulianDay m.date
  pub time : IsTime m.time
  pub offset : IsOffset m.offset

-- The local date-time of a moment.
abbrev pub local_in : Moment → ℤ
local_in m = date_time (day_of m.date) m.time

-- The moment as a date-time at an offset.
abbrev pub local_and_offset_in : Moment → LocalAndOffset
local_and_offset_in m = record { local = local_in m; offset = m.offset }

-- The result with a moment.
abbrev pub moment_ok : LocalAndOffset → MomentResult
moment_ok m =
    record { status = OK; unused = 0; moment = record { date = julian_day_at (date_at m.local); offset = m.offset; time = time_at m.local } }

-- The result with an error.
abbrev pub moment_error : ℤ → MomentResult
moment_error s =
    record { status = s; unused = 0; moment = record { date = no_value; offset = no_value; time = 18_446_744_073_709_551_615 } }

-- The result is the moment of a local date-time at an offset, or the error s if the local date-time
-- is out of range.
pub record IsMomentOrError (s local offset : ℤ) (r : MomentResult) : Type 0 where
  pub none : (IsDateTime local → ⊥) → r ≡ moment_error s
  pub moment : IsDateTime local → r ≡ moment_ok (record { local = local; offset = offset })
