-- The digits of a number without zeros before them, and its sign.
use Rattle.std.proofs.Common.{◌≡◌, ℕ, ◌-◌, ◌<◌, ◌≤◌, ◌^◌, [], ◌∷◌, ◌+◌, ◌++◌, length, replicate, sym, ap, ◌∙◌, arith, lit<}
use Rattle.std.proofs.lemmas.List.{append_assoc}
use Rattle.std.specs.Prelude.{decimal}
use Rattle.std.proofs.lemmas.Fmt.{length-decimal-le, decimal_nonempty, decimal_digit}
use Rattle.cal_time.specs.DateText.{digits_at_least}

pub decimal-some : (n : ℕ) → n < 10 ^ 9 → 0 < length (decimal n)
decimal-some n h = decimal_nonempty n (omega arith)

pub decimal-width : (n : ℕ) → n < 10 ^ 9 → decimal n ≡ digits_at_least 1 n
decimal-width n h =
    let none : 1 - length (decimal n) ≡ 0 = omega (arith, decimal-some n h) in
    ap (λ k. replicate k 48 ++ decimal n) (sym none)

-- no number of 64 bits has more than 20 digits
pub few_digits : (n : ℕ) → n < 2 ^ 64 → length (decimal n) ≤ 20
few_digits n small = length-decimal-le 20 n (lit< tt) (omega (arith, small)) small

-- one digit
pub one_digit : (n : ℕ) → n < 10 → (48 + n) ∷ [] ≡ digits_at_least 1 n
one_digit n low = sym (decimal_digit n low) ∙ decimal-width n (omega arith)

pub ruleset week_digits = (one_digit, append_assoc)
