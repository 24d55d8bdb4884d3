-- Date-times in a zone. An instant is the nanoseconds at UTC since the first date-time of the range.
use Rattle.std.specs.Prelude.{◌≡◌, ℤ, Result, Ok, Err}
use Rattle.cal_datetime.specs.DateTime.{IsDateTime}
use Rattle.cal_datetime.specs.OffsetDateTime.{LocalAndOffset, instant, local_at, unix_seconds}
use Rattle.cal_zone.specs.Timeline.{Timeline, offset_at}
use Rattle.cal_zone.specs.declared.local_time_error.LocalTimeError.{LocalTimeError}
use Rattle.cal_zone.specs.declared.local_time_error.LocalTimeError.TheVariants.{OutOfRange}

-- A date-time in a zone: the zone, and what its clocks show.
pub record InZone : Type 0 where
  pub zone : Timeline
  pub moment : LocalAndOffset

-- The instant of a date-time in a zone.
abbrev pub instant_in : InZone → ℤ
instant_in m = instant m.moment

-- What the clocks of a zone show at an instant.
abbrev pub seen : Timeline → ℤ → LocalAndOffset
seen zone z = record { local = local_at z (offset_at zone (unix_seconds z)); offset = offset_at zone (unix_seconds z) }

-- The reading of the clocks at an instant.
abbrev pub reading_at : Timeline → ℤ → ℤ
reading_at zone z = local_at z (offset_at zone (unix_seconds z))

-- The date-time in a zone at an instant.
abbrev pub at_instant : Timeline → ℤ → InZone
at_instant zone z = record { zone = zone; moment = seen zone z }

-- The result is the date-time in the zone at the instant z, or the error `OutOfRange` if its
-- reading is out of range.
pub record IsSeen (zone : Timeline) (z : ℤ) (r : Result InZone LocalTimeError) : Type 0 where
  pub value : IsDateTime (reading_at zone z) → r ≡ Ok (at_instant zone z)
  pub error : ¬ IsDateTime (reading_at zone z) → r ≡ Err OutOfRange
