-- The offsets of a zone near an instant, and the readings at which a search in the zone begins and
-- ends.
use Rattle.std.specs.Prelude.{◌≡◌, ℤ, pos, ◌+ℤ◌, ◌-ℤ◌, ◌≤ℤ◌, ◌<ℤ◌, neg_ℤ, Option, MatchOption}
use Rattle.cal_datetime.specs.DateTime.{IsDateTime}
use Rattle.cal_datetime.specs.OffsetDateTime.{LocalAndOffset, instant, local_at}
use Rattle.cal_zone.specs.Timeline.{Timeline, offset_at, IsOffset}
use Rattle.cal_recurrence.specs.ZonedSet.{IsMeant}
use Rattle.cal_recurrence.specs.declared.offset_range.OffsetRange.{OffsetRange}

-- A Unix time that is far from the ends of 64 bits.
abbrev pub IsSecond : ℤ → Type 0
IsSecond i = (neg_ℤ (pos 100_000_000_000_000) ≤ℤ i) × (i ≤ℤ pos 100_000_000_000_000)

-- The Unix time i is within 52 hours of the Unix time s: no two offsets differ by more.
abbrev pub IsNear : ℤ → ℤ → Type 0
IsNear s i = ((s -ℤ pos 187_200) ≤ℤ i) × (i ≤ℤ (s +ℤ pos 187_200))

-- Near the Unix time s, clocks have one offset before a change and another one from it on.
pub record IsStep (zone : Timeline) (s change before after : ℤ) : Type 0 where
  pub early : (i : ℤ) → IsNear s i → i <ℤ change → offset_at zone i ≡ before
  pub late : (i : ℤ) → IsNear s i → change ≤ℤ i → offset_at zone i ≡ after
  pub offsets : IsOffset before × IsOffset after

-- A reading that means the instant x or a later one is ahead of x by an offset or more.
pub record IsMin (zone : Timeline) (x o : ℤ) : Type 0 where
  pub range : IsOffset o
  pub least : (z : ℤ) (m : LocalAndOffset) → IsMeant zone z m → x ≤ℤ instant m → local_at x o ≤ℤ z

-- A reading that means an instant before x is ahead of x by less than an offset.
pub record IsMax (zone : Timeline) (x o : ℤ) : Type 0 where
  pub range : IsOffset o
  pub most : (z : ℤ) (m : LocalAndOffset) → IsMeant zone z m → instant m <ℤ x → z <ℤ local_at x o

-- The minimum and the maximum of the range are such offsets.
pub record IsRange (zone : Timeline) (x : ℤ) (range : OffsetRange) : Type 0 where
  pub min : IsMin zone x range.min
  pub max : IsMax zone x range.max

-- The readings before s mean no instant after x.
abbrev pub IsStart : Timeline → ℤ → ℤ → Type 0
IsStart zone x s = (z : ℤ) (m : LocalAndOffset) → IsDateTime z → IsMeant zone z m → x <ℤ instant m → s ≤ℤ z

-- The readings from z on mean no instant before that of a date-time.
abbrev pub IsSettled : Timeline → Option LocalAndOffset → ℤ → Type 0
IsSettled zone r z = MatchOption r ⊥ (λ k. (y : ℤ) (m : LocalAndOffset) → IsMeant zone y m → z ≤ℤ y → instant k ≤ℤ instant m)
