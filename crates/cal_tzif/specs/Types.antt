-- The local time types of a TZif file are in range, used or not, and the abbreviations are ASCII, each
-- with a NUL at its end (RFC 9636, 3.2).
use Rattle.std.specs.Prelude.{◌≡◌, ℕ, ◌+◌, ◌-◌, ◌*◌, ◌<◌, ◌≤◌, List, slice_index}
use Rattle.cal_zone.specs.declared.layout.Layout.{Layout}
use Rattle.cal_zone.specs.Table.{type_in}
use Rattle.cal_zone.specs.Timeline.{IsOffset}
use Rattle.cal_tzif.specs.declared.zone_error.ZoneError.{ZoneError}
use Rattle.cal_tzif.specs.declared.zone_error.ZoneErrorKind.TheVariants as kinds
use Rattle.cal_tzif.specs.PosixError.{error_at}

-- The position of the type with an index.
abbrev pub type_at : Layout → ℕ → ℕ
type_at p k = p.types + 6 * k

-- The offset, the daylight flag and the index of the abbreviation of a type are in range.
pub record IsType (bytes : List ℕ) (p : Layout) (k : ℕ) : Type 0 where
  pub offset : IsOffset (type_in bytes p k).offset
  pub flag : slice_index bytes (type_at p k + 4) ≤ 1
  pub name : (type_in bytes p k).name_start < p.names_end

-- The first error of a type: its offset, its daylight flag or the index of its abbreviation.
pub data IsTypeError (bytes : List ℕ) (p : Layout) (k : ℕ) (e : ZoneError) : Type 0 where
  offset : ¬ (IsOffset (type_in bytes p k).offset) → e ≡ error_at kinds.Offset (type_at p k) → IsTypeError bytes p k e
  flag : IsOffset (type_in bytes p k).offset → 1 < slice_index bytes (type_at p k + 4) → e ≡ error_at kinds.Daylight (type_at p k + 4) → IsTypeError bytes p k e
  name : IsOffset (type_in bytes p k).offset → slice_index bytes (type_at p k + 4) ≤ 1 → p.names_end ≤ (type_in bytes p k).name_start
      → e ≡ error_at kinds.NameIndex (type_at p k + 5) → IsTypeError bytes p k e

-- The first n types are in range.
abbrev pub AreTypes : List ℕ → Layout → ℕ → Type 0
AreTypes bytes p n = (k : ℕ) → k < n → IsType bytes p k

-- The n bytes from a position on are ASCII.
abbrev pub AreAscii : List ℕ → ℕ → ℕ → Type 0
AreAscii bytes start n = (k : ℕ) → k < n → slice_index bytes (start + k) ≤ 127

-- The byte before a position is a NUL.
abbrev pub EndsWithNul : List ℕ → ℕ → Type 0
EndsWithNul bytes end = (1 ≤ end) × (slice_index bytes (end - 1) ≡ 0)

-- All types are in range, and all abbreviations are ASCII and end with a NUL: the last one does.
pub record HasTypes (bytes : List ℕ) (p : Layout) : Type 0 where
  pub types : AreTypes bytes p p.kinds
  pub ascii : AreAscii bytes p.names (p.names_end - p.names)
  pub end : EndsWithNul bytes p.names_end

-- The error of the first byte that is not ASCII.
pub data IsAsciiError (bytes : List ℕ) (start n : ℕ) (e : ZoneError) : Type 0 where
  byte : (k : ℕ) → k < n → AreAscii bytes start k → 127 < slice_index bytes (start + k) → e ≡ error_at kinds.NotAscii (start + k) → IsAsciiError bytes start n e

-- The error of a last abbreviation without a NUL, which is missing at the end.
abbrev pub IsEndError : List ℕ → ℕ → ZoneError → Type 0
IsEndError bytes end e = (¬ EndsWithNul bytes end) × (e ≡ error_at kinds.NameEnd end)

-- The error of the first type that has one, or else of the abbreviations.
pub data IsTypesError (bytes : List ℕ) (p : Layout) (e : ZoneError) : Type 0 where
  one : (k : ℕ) → k < p.kinds → AreTypes bytes p k → IsTypeError bytes p k e → IsTypesError bytes p e
  ascii : AreTypes bytes p p.kinds → IsAsciiError bytes p.names (p.names_end - p.names) e → IsTypesError bytes p e
  end : AreTypes bytes p p.kinds → AreAscii bytes p.names (p.names_end - p.names) → IsEndError bytes p.names_end e → IsTypesError bytes p e
