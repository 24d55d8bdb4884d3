-- Decimal digits in ASCII.
use Rattle.std.specs.Prelude.{ℕ, ◌+◌, ◌-◌, ◌/◌, ◌%◌, ◌==◌, List, [], ◌∷◌, ◌++◌, take, drop, length, decimal, replicate, if◌then◌else◌}

-- The ASCII code of the digit of a number below 10. The digit 0 has the code 48.
abbrev pub digit : ℕ → ℕ
digit n = 48 + n

-- The two digits of a number below 100, for its tens and its ones.
abbrev pub two_digits : ℕ → List ℕ
two_digits n = digit (n / 10) ∷ digit (n % 10) ∷ []

-- A number with `width` or more digits: zeros come before its own digits. With the width 4, 33 is
-- written 0033.
abbrev pub digits_at_least : ℕ → ℕ → List ℕ
digits_at_least width n = replicate (width - length (decimal n)) 48 ++ decimal n

-- The nine digits of a number below 1000000000, with leading zeros.
abbrev pub nine_digits : ℕ → List ℕ
nine_digits n =
    digit (n / 100_000_000) ∷ digit (n / 10_000_000 % 10) ∷ digit (n / 1_000_000 % 10)
    ∷ digit (n / 100_000 % 10) ∷ digit (n / 10_000 % 10) ∷ digit (n / 1_000 % 10)
    ∷ digit (n / 100 % 10) ∷ digit (n / 10 % 10) ∷ digit (n % 10) ∷ []

-- A digit before the digits that are kept. It is dropped if it is zero and no digit after it is
-- kept.
abbrev pub prepend_digit : ℕ → List ℕ → List ℕ
prepend_digit d [] = if d == digit 0 then [] else d ∷ []
prepend_digit d (e ∷ es) = d ∷ e ∷ es

-- A list of digits without its trailing zeros.
unfoldable pub without_trailing_zeros : List ℕ → List ℕ
without_trailing_zeros [] = []
without_trailing_zeros (d ∷ ds) = prepend_digit d (without_trailing_zeros ds)

-- The decimals of a second for n nanoseconds: the first of the nine digits, and the others without
-- trailing zeros. For 500000000 they are 5, and for 0 they are 0.
abbrev pub decimals : ℕ → List ℕ
decimals n = take 1 (nine_digits n) ++ without_trailing_zeros (drop 1 (nine_digits n))
