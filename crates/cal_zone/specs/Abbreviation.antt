-- The abbreviation of a local time type: the bytes between two positions, up to the first zero byte
-- (RFC 9636, 3.2).
use Rattle.std.specs.Prelude.{ℕ, nat_lt, List, take, drop}
use Rattle.std.specs.List.{take_while}

-- The bytes before the first zero byte.
abbrev pub until_zero : List ℕ → List ℕ
until_zero bytes = take_while (nat_lt 0) bytes

-- The abbreviation between the positions `start` and `end`.
abbrev pub abbreviation : List ℕ → ℕ → ℕ → List ℕ
abbreviation bytes start end = until_zero (drop start (take end bytes))
