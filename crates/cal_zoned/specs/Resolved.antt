-- The date-time in a zone that a local date-time means (Temporal, the option `disambiguation`).
use Rattle.std.specs.Prelude.{ℤ, ◌≡◌, pos, ◌-ℤ◌, ◌*ℤ◌, Result, Ok, Err}
use Rattle.cal_time.specs.SignedDuration.{second}
use Rattle.cal_zone.specs.declared.local.Local.{Local}
use Rattle.cal_zone.specs.declared.local.Local.TheVariants.{Single, Gap, Fold}
use Rattle.cal_zone.specs.declared.local_time_error.LocalTimeError.{LocalTimeError}
use Rattle.cal_zone.specs.declared.local_time_error.LocalTimeError.TheVariants.{Skipped, Repeated}
use Rattle.cal_zone.specs.declared.policy.Policy.{Policy}
use Rattle.cal_zone.specs.declared.policy.Policy.TheVariants as policy
use Rattle.cal_zone.specs.Local.{IsLocalOf, Shows}
use Rattle.cal_zone.specs.Timeline.{Timeline}
use Rattle.cal_zoned.specs.Zoned.{InZone, IsSeen}

-- A reading that clocks show once is that instant. In a gap it is the instant of the reading at the
-- offset before the gap or after it, as the policy says.
abbrev pub IsMeant : Policy → Timeline → Local → Result InZone LocalTimeError → Type 0
IsMeant p zone (Single m) r = r ≡ Ok (record { zone = zone; moment = m })
IsMeant policy.Compatible zone (Gap g) r = IsSeen zone (g.reading -ℤ g.before *ℤ pos second) r
IsMeant policy.Earlier zone (Gap g) r = IsSeen zone (g.reading -ℤ g.after *ℤ pos second) r
IsMeant policy.Later zone (Gap g) r = IsSeen zone (g.reading -ℤ g.before *ℤ pos second) r
IsMeant policy.Reject zone (Gap g) r = r ≡ Err Skipped
IsMeant policy.Compatible zone (Fold e l) r = r ≡ Ok (record { zone = zone; moment = e })
IsMeant policy.Earlier zone (Fold e l) r = r ≡ Ok (record { zone = zone; moment = e })
IsMeant policy.Later zone (Fold e l) r = r ≡ Ok (record { zone = zone; moment = l })
IsMeant policy.Reject zone (Fold e l) r = r ≡ Err Repeated

-- The result is what the policy makes of the date-times at which the clocks show the reading.
pub record IsResolved (p : Policy) (zone : Timeline) (reading : ℤ) (r : Result InZone LocalTimeError) : Type 0 where
  pub local : Local
  pub is_local : IsLocalOf zone reading local
  pub meant : IsMeant p zone local r

-- The result keeps the offset of a date-time in the zone if the clocks show the reading at this
-- offset. Otherwise the policy decides.
pub record IsKept (p : Policy) (m : InZone) (reading : ℤ) (r : Result InZone LocalTimeError) : Type 0 where
  pub kept : Shows m.zone reading (record { local = reading; offset = m.moment.offset })
      → r ≡ Ok (record { zone = m.zone; moment = record { local = reading; offset = m.moment.offset } })
  pub moved : ¬ Shows m.zone reading (record { local = reading; offset = m.moment.offset }) → IsResolved p m.zone reading r
