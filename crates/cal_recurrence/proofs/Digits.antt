-- How many digits a number has.
use Rattle.std.proofs.Common.{ℕ, suc, ◌<◌, ◌≤◌, ◌^◌, length, ℤ, pos, negsuc, FitsSigned, w8, w16, arith}
use Rattle.std.specs.Prelude.{decimal}
use Rattle.std.specs.Fmt.{signed_decimal}
use Rattle.std.proofs.lemmas.Fmt.{length-decimal-le}
use Rattle.std.proofs.lemmas.Int.{ints}

pub few_digits : (n : ℕ) → n < 2 ^ 32 → length (decimal n) ≤ 10
few_digits n small = length-decimal-le 10 n (omega arith) (omega (arith, small)) (omega (arith, small))

pub three_digits : (n : ℕ) → n < 1000 → length (decimal n) ≤ 3
three_digits n small = length-decimal-le 3 n (omega arith) (omega (arith, small)) (omega (arith, small))

-- a number of eight bits, with its sign
pub index_digits : (z : ℤ) → FitsSigned w8 z → length (signed_decimal z) ≤ 4
index_digits (pos n) fits = omega (arith, three_digits n (grind (arith, ints, fits)))
index_digits (negsuc n) fits = omega (arith, three_digits (suc n) (grind (arith, ints, fits)))

-- a number of sixteen bits, with its sign
five_digits : (n : ℕ) → n < 100000 → length (decimal n) ≤ 5
five_digits n small = length-decimal-le 5 n (omega arith) (omega (arith, small)) (omega (arith, small))

pub position_digits : (z : ℤ) → FitsSigned w16 z → length (signed_decimal z) ≤ 6
position_digits (pos n) fits = omega (arith, five_digits n (grind (arith, ints, fits)))
position_digits (negsuc n) fits = omega (arith, five_digits (suc n) (grind (arith, ints, fits)))
