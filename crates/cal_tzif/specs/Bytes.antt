-- The bytes of a file.
use Rattle.std.specs.Prelude.{◌≡◌, ℕ, ◌+◌, List, get_or, slice_index}
use Rattle.cal_zone.specs.Bytes.{big_endian}

-- The byte at a position, or 0 after the end.
abbrev pub byte : List ℕ → ℕ → ℕ
byte bytes at = get_or bytes at 0

-- The number of the four bytes at a position.
unfoldable pub count_at : List ℕ → ℕ → ℕ
count_at bytes at = big_endian bytes at 4

-- A header begins at a position: the bytes there are `TZif`.
abbrev pub IsMagic : List ℕ → ℕ → Type 0
IsMagic bytes at =
    (slice_index bytes at ≡ 84) × (slice_index bytes (at + 1) ≡ 90) × (slice_index bytes (at + 2) ≡ 105) × (slice_index bytes (at + 3) ≡ 102)
