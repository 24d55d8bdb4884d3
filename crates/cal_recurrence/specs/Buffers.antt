-- Texts that are written into the buffer of a caller.
use Rattle.std.specs.Prelude.{◌≡◌, ℕ, ◌+◌, ◌<◌, ◌≤◌, List, ◌++◌, take, drop, length, Option, MatchOption}

-- A call wrote the text into a buffer from byte `at` on, and returned its end. The other bytes stay.
-- Without an end the buffer is too short.
abbrev pub IsPut : ℕ → List ℕ → List ℕ → List ℕ → Option ℕ → Type 0
IsPut at text old new result = MatchOption result (length old < at + length text) (λ end.
    (end ≡ at + length text) × (end ≤ length old) × (take end new ≡ take at old ++ text) × (drop end new ≡ drop end old))
