-- The header of a TZif file at a position (RFC 9636, 3.1), and where its data block ends, if its
-- times have a size in bytes.
use Rattle.std.specs.Prelude.{◌≡◌, ◌≢◌, ℕ, ◌+◌, ◌*◌, ◌<◌, ◌≤◌, List, length, slice_index}
use Rattle.cal_zone.specs.declared.layout.Layout.{Layout}
use Rattle.cal_tzif.specs.declared.header.Header.{Header}
use Rattle.cal_tzif.specs.declared.zone_error.ZoneError.{ZoneError}
use Rattle.cal_tzif.specs.declared.zone_error.ZoneErrorKind.TheVariants as kinds
use Rattle.cal_tzif.specs.Bytes.{count_at, IsMagic}
use Rattle.cal_tzif.specs.PosixError.{error_at}

-- The position after the data block of the header at a position.
unfoldable pub block_end : List ℕ → ℕ → ℕ → ℕ
block_end bytes at size =
    at + 44 + count_at bytes (at + 32) * (size + 1) + count_at bytes (at + 36) * 6 + count_at bytes (at + 40) + count_at bytes (at + 28) * (size + 4)
    + count_at bytes (at + 24) + count_at bytes (at + 20)

-- The version and the counts of the header at a position.
abbrev pub header_at : List ℕ → ℕ → ℕ → Header
header_at bytes at size = record {
  version = slice_index bytes (at + 4);
  leaps = count_at bytes (at + 28);
  changes = count_at bytes (at + 32);
  types = count_at bytes (at + 36);
  letters = count_at bytes (at + 40);
  end = block_end bytes at size;
}

-- A version is 2, 3 or 4.
abbrev pub IsVersion : ℕ → Type 0
IsVersion v = (50 ≤ v) × (v ≤ 52)

-- At a position there are a header and its whole data block.
pub record IsHeader (bytes : List ℕ) (at size : ℕ) : Type 0 where
  pub room : at + 44 ≤ length bytes
  pub magic : IsMagic bytes at
  pub version : IsVersion (slice_index bytes (at + 4))
  pub whole : block_end bytes at size ≤ length bytes

-- The first error of a header: its length, its first bytes, its version, or the length of its data
-- block.
pub data IsHeaderError (bytes : List ℕ) (at size : ℕ) (e : ZoneError) : Type 0 where
  short : length bytes < at + 44 → e ≡ error_at kinds.Truncated (length bytes) → IsHeaderError bytes at size e
  magic : at + 44 ≤ length bytes → ¬ (IsMagic bytes at) → e ≡ error_at kinds.Magic at → IsHeaderError bytes at size e
  version : at + 44 ≤ length bytes → IsMagic bytes at → ¬ (IsVersion (slice_index bytes (at + 4)))
      → e ≡ error_at kinds.Version (at + 4) → IsHeaderError bytes at size e
  cut : at + 44 ≤ length bytes → IsMagic bytes at → IsVersion (slice_index bytes (at + 4)) → length bytes < block_end bytes at size
      → e ≡ error_at kinds.Truncated (length bytes) → IsHeaderError bytes at size e

-- The positions of the parts of the data block after a header at a position.
abbrev pub layout_at : Header → ℕ → Layout
layout_at h at = record {
  times = at + 44;
  indexes = at + 44 + 8 * h.changes;
  types = at + 44 + 8 * h.changes + h.changes;
  names = at + 44 + 8 * h.changes + h.changes + 6 * h.types;
  names_end = at + 44 + 8 * h.changes + h.changes + 6 * h.types + h.letters;
  changes = h.changes;
  kinds = h.types;
}

-- A file has two headers. The first data block is skipped.
abbrev pub second_at : List ℕ → ℕ
second_at bytes = block_end bytes 0 4

abbrev pub second_header : List ℕ → Header
second_header bytes = header_at bytes (second_at bytes) 8

abbrev pub layout_of : List ℕ → Layout
layout_of bytes = layout_at (second_header bytes) (second_at bytes)

-- The headers have the same version, and the second data block has types and no leap seconds.
pub record HasHeaders (bytes : List ℕ) : Type 0 where
  pub first : IsHeader bytes 0 4
  pub second : IsHeader bytes (second_at bytes) 8
  pub version : (second_header bytes).version ≡ slice_index bytes 4
  pub leaps : (second_header bytes).leaps ≡ 0
  pub types : 0 < (second_header bytes).types

-- The first error of the two headers: of the first, of the second, or of the second header's
-- version, leap seconds or types.
pub data IsHeadersError (bytes : List ℕ) (e : ZoneError) : Type 0 where
  first : IsHeaderError bytes 0 4 e → IsHeadersError bytes e
  second : IsHeader bytes 0 4 → IsHeaderError bytes (second_at bytes) 8 e → IsHeadersError bytes e
  version : IsHeader bytes 0 4 → IsHeader bytes (second_at bytes) 8 → (second_header bytes).version ≢ slice_index bytes 4
      → e ≡ error_at kinds.Version (second_at bytes + 4) → IsHeadersError bytes e
  leaps : IsHeader bytes 0 4 → IsHeader bytes (second_at bytes) 8 → (second_header bytes).version ≡ slice_index bytes 4 → (second_header bytes).leaps ≢ 0
      → e ≡ error_at kinds.LeapSeconds (second_at bytes + 28) → IsHeadersError bytes e
  no_type : IsHeader bytes 0 4 → IsHeader bytes (second_at bytes) 8 → (second_header bytes).version ≡ slice_index bytes 4 → (second_header bytes).leaps ≡ 0
      → (second_header bytes).types ≡ 0 → e ≡ error_at kinds.NoType (second_at bytes + 36) → IsHeadersError bytes e
