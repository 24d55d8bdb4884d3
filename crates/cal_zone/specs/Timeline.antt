-- A zone is the local time type before its first change, and its changes: seconds ahead of UTC over
-- Unix times, which are seconds since 1970-01-01 0:00 UTC.
use Rattle.std.specs.Prelude.{ℕ, zero, suc, ◌<◌, ℤ, pos, ◌+ℤ◌, ◌<ℤ◌, ◌≤ℤ◌, List, [], ◌∷◌, length, neg_ℤ, int_le, if◌then◌else◌, false}
use Rattle.std.specs.Int.{int_min, int_max}
use Rattle.std.specs.List.{slice_index_or}
use Rattle.cal_zone.specs.declared.change.Change.{Change}
use Rattle.cal_zone.specs.declared.local_type.LocalType.{LocalType}

pub record Timeline : Type 0 where
  pub first : LocalType
  pub changes : List Change

-- The type at an instant: the type of the last change in the list that isn't after the instant, or
-- the first type if there is none.
abbrev pub kind_from : LocalType → List Change → ℤ → LocalType
kind_from kind [] instant = kind
kind_from kind (c ∷ cs) instant = kind_from (if int_le c.at instant then c.kind else kind) cs instant

abbrev pub kind_at : Timeline → ℤ → LocalType
kind_at zone instant = kind_from zone.first zone.changes instant

-- The offset at an instant, and the reading of the clocks at an instant: its seconds since
-- 1970-01-01 0:00 by the clock.
abbrev pub offset_at : Timeline → ℤ → ℤ
offset_at zone instant = (kind_at zone instant).offset

abbrev pub local_at : Timeline → ℤ → ℤ
local_at zone instant = instant +ℤ offset_at zone instant

-- The offset after the first n changes.
abbrev pub after_changes : ℤ → List Change → ℕ → ℤ
after_changes offset cs zero = offset
after_changes offset [] (suc n) = offset
after_changes offset (c ∷ cs) (suc n) = after_changes c.kind.offset cs n

-- The type and the change after the end of a list.
abbrev pub no_type : LocalType
no_type = record { offset = pos 0; is_daylight = false; name_start = 0; name_end = 0 }

abbrev pub no_change : Change
no_change = record { at = pos 0; kind = no_type }

-- The instant of the change with an index.
abbrev pub at : List Change → ℕ → ℤ
at cs k = (slice_index_or cs k no_change).at

-- The first reading of the gap or fold of a change, and the first reading after it.
abbrev pub begins : ℤ → List Change → ℕ → ℤ
begins first cs k = at cs k +ℤ int_min (after_changes first cs k) (after_changes first cs (suc k))

abbrev pub ends : ℤ → List Change → ℕ → ℤ
ends first cs k = at cs k +ℤ int_max (after_changes first cs k) (after_changes first cs (suc k))

-- An offset is from -25:59:59 to 25:59:59, and an instant of a change from -2^60 to 2^60.
abbrev pub IsOffset : ℤ → Type 0
IsOffset offset = (neg_ℤ (pos 93_599) ≤ℤ offset) × (offset ≤ℤ pos 93_599)

abbrev pub IsMoment : ℤ → Type 0
IsMoment instant = (neg_ℤ (pos 1_152_921_504_606_846_976) ≤ℤ instant) × (instant ≤ℤ pos 1_152_921_504_606_846_976)

-- The offsets and the instants are in range, the changes rise, and the gap or fold of each change
-- lies before the gap or fold of the next.
pub record IsOrdered (first : ℤ) (changes : List Change) : Type 0 where
  pub offset : IsOffset first
  pub offsets : (k : ℕ) → k < length changes → IsOffset (slice_index_or changes k no_change).kind.offset
  pub moments : (k : ℕ) → k < length changes → IsMoment (at changes k)
  pub rising : (k : ℕ) → suc k < length changes → at changes k <ℤ at changes (suc k)
  pub apart : (k : ℕ) → suc k < length changes → ends first changes k ≤ℤ begins first changes (suc k)

abbrev pub InOrder : Timeline → Type 0
InOrder zone = IsOrdered zone.first.offset zone.changes

-- A change at the instant b is after a change at a, and so is its gap or fold. The offsets are
-- those before, between and after the two changes.
pub record IsNext (a b before between after : ℤ) : Type 0 where
  pub rising : a <ℤ b
  pub apart : (a +ℤ int_max before between) ≤ℤ (b +ℤ int_min between after)
