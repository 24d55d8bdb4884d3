-- The changes of a TZif file, as its bytes have them (RFC 9636, 3.2).
use Rattle.std.specs.Prelude.{◌≡◌, ℕ, ◌+◌, ◌*◌, ◌^◌, ◌<◌, ◌≤◌, List, length, map, slice_index, nat_lt}
use Rattle.std.specs.List.{range_with_len}
use Rattle.cal_zone.specs.declared.change.Change.{Change}
use Rattle.cal_zone.specs.declared.layout.Layout.{Layout}
use Rattle.cal_zone.specs.declared.local_type.LocalType.{LocalType}
use Rattle.cal_zone.specs.Bytes.{big_endian, two_complement}

-- The local time type that begins at a position: its offset, whether it is daylight time, and the
-- place of its abbreviation.
abbrev pub local_type : List ℕ → ℕ → ℕ → ℕ → LocalType
local_type bytes at names names_end = record {
  offset = two_complement 31 (big_endian bytes at 4);
  is_daylight = nat_lt 0 (slice_index bytes (at + 4));
  name_start = names + slice_index bytes (at + 5);
  name_end = names_end;
}

-- The type with an index, and the change with an index: its time and its type.
abbrev pub type_in : List ℕ → Layout → ℕ → LocalType
type_in bytes p k = local_type bytes (p.types + 6 * k) p.names p.names_end

abbrev pub change_in : List ℕ → Layout → ℕ → Change
change_in bytes p k = record {
  at = two_complement 63 (big_endian bytes (p.times + 8 * k) 8);
  kind = type_in bytes p (slice_index bytes (p.indexes + k));
}

abbrev pub changes_in : List ℕ → Layout → List Change
changes_in bytes p = map (change_in bytes p) (range_with_len 0 p.changes)

-- The bytes have all parts.
pub record IsInside (bytes : List ℕ) (p : Layout) : Type 0 where
  pub times : p.times + 8 * p.changes ≤ length bytes
  pub indexes : p.indexes + p.changes ≤ length bytes
  pub types : p.types + 6 * p.kinds ≤ length bytes
  pub names : p.names ≤ length bytes

-- The bytes have all parts, and there are fewer than 2^60 changes.
pub record IsReadable (bytes : List ℕ) (p : Layout) : Type 0 where
  pub inside : IsInside bytes p
  pub few : p.changes < 2 ^ 60

-- The bytes have all parts, and each change has the index of a type that exists.
pub record IsTable (bytes : List ℕ) (p : Layout) : Type 0 where
  pub readable : IsReadable bytes p
  pub typed : (k : ℕ) → k < p.changes → slice_index bytes (p.indexes + k) < p.kinds

-- At the position is the index of a type that doesn't exist, and the types of the changes before
-- this one exist.
pub record HasNoType (bytes : List ℕ) (p : Layout) (position : ℕ) : Type 0 where
  pub index : ℕ
  pub inside : index < p.changes
  pub place : position ≡ p.indexes + index
  pub before : (k : ℕ) → k < index → slice_index bytes (p.indexes + k) < p.kinds
  pub no_type : p.kinds ≤ slice_index bytes position
