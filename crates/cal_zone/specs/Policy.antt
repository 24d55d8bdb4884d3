-- The meaning of a reading by a policy of Temporal, by the values of its option `disambiguation`.
use Rattle.std.specs.Prelude.{◌&&◌, ℤ, pos, ◌-ℤ◌, int_le, Result, Ok, Err, if◌then◌else◌}
use Rattle.cal_datetime.specs.DateTime.{last_date_time}
use Rattle.cal_datetime.specs.OffsetDateTime.{LocalAndOffset}
use Rattle.cal_zone.specs.declared.instants.Instants.{Instants}
use Rattle.cal_zone.specs.declared.instants.Instants.TheVariants as instants
use Rattle.cal_zone.specs.declared.local.Local.{Local}
use Rattle.cal_zone.specs.declared.local.Local.TheVariants as local
use Rattle.cal_zone.specs.declared.local_time_error.LocalTimeError.{LocalTimeError}
use Rattle.cal_zone.specs.declared.local_time_error.LocalTimeError.TheVariants.{Skipped, Repeated, OutOfRange}
use Rattle.cal_zone.specs.declared.policy.Policy.{Policy}
use Rattle.cal_zone.specs.declared.policy.Policy.TheVariants.{Compatible, Earlier, Later, Reject}
use Rattle.cal_zone.specs.Local.{moved_back, moved_forward}

-- The reading of a gap moved back or forward by its length, or an error.
abbrev pub in_gap : {A : Type 0} → Policy → Result A LocalTimeError → Result A LocalTimeError → Result A LocalTimeError
in_gap Compatible back forward = forward
in_gap Earlier back forward = back
in_gap Later back forward = forward
in_gap Reject back forward = Err Skipped

-- The earlier or the later of two in a fold, or an error.
abbrev pub in_fold : {A : Type 0} → Policy → A → A → Result A LocalTimeError
in_fold Compatible earlier later = Ok earlier
in_fold Earlier earlier later = Ok earlier
in_fold Later earlier later = Ok later
in_fold Reject earlier later = Err Repeated

-- The Unix time that a reading means, in seconds.
abbrev pub instant_by : Policy → ℤ → Instants → Result ℤ LocalTimeError
instant_by policy reading (instants.Single instant) = Ok instant
instant_by policy reading (instants.Gap at before after) = in_gap policy (Ok (reading -ℤ after)) (Ok (reading -ℤ before))
instant_by policy reading (instants.Fold earlier later) = in_fold policy earlier later

-- A date-time, or an error if its local date-time is out of range.
abbrev pub in_range : LocalAndOffset → Result LocalAndOffset LocalTimeError
in_range m = if int_le (pos 0) m.local && int_le m.local (pos last_date_time) then Ok m else Err OutOfRange

-- The date-time that a reading means.
abbrev pub moment_by : Policy → Local → Result LocalAndOffset LocalTimeError
moment_by policy (local.Single moment) = Ok moment
moment_by policy (local.Gap gap) = in_gap policy (in_range (moved_back gap)) (in_range (moved_forward gap))
moment_by policy (local.Fold earlier later) = in_fold policy earlier later
