-- The results of functions that take a zone apart from a date-time.
use Rattle.std.specs.Prelude.{Option, Some, None, Result, Ok, Err}
use Rattle.cal_datetime.specs.OffsetDateTime.{LocalAndOffset}
use Rattle.cal_zone.specs.Timeline.{Timeline}
use Rattle.cal_zone.specs.declared.local_time_error.LocalTimeError.{LocalTimeError}
use Rattle.cal_zoned.specs.Zoned.{InZone}

-- A date-time in a zone by its two parts, and the same for results.
abbrev pub in_zone : Timeline → LocalAndOffset → InZone
in_zone zone m = record { zone = zone; moment = m }

abbrev pub result_in : Timeline → Result LocalAndOffset LocalTimeError → Result InZone LocalTimeError
result_in zone (Ok m) = Ok (in_zone zone m)
result_in zone (Err e) = Err e

abbrev pub start_in : Timeline → Option LocalAndOffset → Option InZone
start_in zone (Some m) = Some (in_zone zone m)
start_in zone None = None
