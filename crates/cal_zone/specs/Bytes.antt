-- Numbers in the bytes of a file (RFC 9636, 3.1).
use Rattle.std.specs.Prelude.{ℕ, zero, suc, ◌+◌, ◌*◌, ◌^◌, nat_lt, List, slice_index, if◌then◌else◌, ℤ, pos, ◌-ℤ◌}

-- The number of the n bytes from a position on, the highest byte first.
abbrev pub big_endian : List ℕ → ℕ → ℕ → ℕ
big_endian bytes at zero = 0
big_endian bytes at (suc n) = big_endian bytes at n * 256 + slice_index bytes (at + n)

-- The signed number of n in two's complement, with this number of bits after the sign: from
-- 2^bits on it is n less 2^(bits + 1).
abbrev pub two_complement : ℕ → ℕ → ℤ
two_complement bits n = if nat_lt n (2 ^ bits) then pos n else (pos n -ℤ pos (2 ^ bits * 2))
