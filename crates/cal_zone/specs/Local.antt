-- The date-times that a reading names in a zone, and the date-time that a policy selects.
use Rattle.std.specs.Prelude.{◌≡◌, ◌⊎◌, ◌↔◌, ℤ, pos, ◌<ℤ◌, ◌+ℤ◌, ◌-ℤ◌, ◌*ℤ◌, Option, Some, None, SomeIff}
use Rattle.cal_time.specs.SignedDuration.{second}
use Rattle.cal_datetime.specs.DateTime.{IsDateTime}
use Rattle.cal_datetime.specs.OffsetDateTime.{LocalAndOffset, instant, unix_seconds}
use Rattle.cal_zone.specs.declared.gap.Gap as gaps
use Rattle.cal_zone.specs.declared.local.Local.{Local}
use Rattle.cal_zone.specs.declared.local.Local.TheVariants.{Single, Gap, Fold}
use Rattle.cal_zone.specs.Instants.{IsGap}
use Rattle.cal_zone.specs.Timeline.{Timeline, offset_at}

-- The clocks show the reading at the date-time: its offset is the zone's at its own instant.
pub record Shows (zone : Timeline) (reading : ℤ) (m : LocalAndOffset) : Type 0 where
  pub same : m.local ≡ reading
  pub offset : m.offset ≡ offset_at zone (unix_seconds (instant m))

-- The date-times that a result names.
abbrev pub NamesMoment : Local → LocalAndOffset → Type 0
NamesMoment (Single moment) m = m ≡ moment
NamesMoment (Gap gap) m = ⊥
NamesMoment (Fold earlier later) m = (m ≡ earlier) ⊎ (m ≡ later)

-- A gap is one of the zone, and the date-times of a fold are in order.
abbrev pub IsLocal : Timeline → ℤ → Local → Type 0
IsLocal zone reading (Single moment) = Unit {0}
IsLocal zone reading (Gap gap) = (gap.reading ≡ reading) × IsGap zone (unix_seconds reading) gap.at gap.before gap.after
IsLocal zone reading (Fold earlier later) = instant earlier <ℤ instant later

-- The date-times are exactly those at which the clocks of the zone show the reading.
pub record IsLocalOf (zone : Timeline) (reading : ℤ) (local : Local) : Type 0 where
  pub set : (m : LocalAndOffset) → NamesMoment local m ↔ Shows zone reading m
  pub explained : IsLocal zone reading local

-- The reading of a gap moved by the length of the gap, back or forward.
abbrev pub moved_back : gaps.Gap → LocalAndOffset
moved_back gap = record { local = gap.reading -ℤ (gap.after -ℤ gap.before) *ℤ pos second; offset = gap.before }

abbrev pub moved_forward : gaps.Gap → LocalAndOffset
moved_forward gap = record { local = gap.reading +ℤ (gap.after -ℤ gap.before) *ℤ pos second; offset = gap.after }

-- The result is this date-time, or `None` if its local date-time is out of range.
abbrev pub IsInRange : LocalAndOffset → Option LocalAndOffset → Type 0
IsInRange m r = SomeIff r (IsDateTime m.local) m

-- The policies of Temporal, by the name of its option `disambiguation`. A reading that clocks show
-- once is its date-time by each of them.
abbrev pub IsCompatible : Local → Option LocalAndOffset → Type 0
IsCompatible (Single moment) r = r ≡ Some moment
IsCompatible (Gap gap) r = IsInRange (moved_forward gap) r
IsCompatible (Fold earlier later) r = r ≡ Some earlier

abbrev pub IsEarlier : Local → Option LocalAndOffset → Type 0
IsEarlier (Single moment) r = r ≡ Some moment
IsEarlier (Gap gap) r = IsInRange (moved_back gap) r
IsEarlier (Fold earlier later) r = r ≡ Some earlier

abbrev pub IsLater : Local → Option LocalAndOffset → Type 0
IsLater (Single moment) r = r ≡ Some moment
IsLater (Gap gap) r = IsInRange (moved_forward gap) r
IsLater (Fold earlier later) r = r ≡ Some later

abbrev pub reject : Local → Option LocalAndOffset
reject (Single moment) = Some moment
reject (Gap gap) = None
reject (Fold earlier later) = None
