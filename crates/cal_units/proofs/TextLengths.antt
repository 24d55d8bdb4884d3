-- The maximum lengths of the texts of numbers, for callers that show that a text has room.
use Rattle.std.proofs.Common.{ℤ, pos, negsuc, suc, ◌<◌, ◌≤◌, ◌^◌, length, arith}
use Rattle.std.specs.Prelude.{unsigned_abs}
use Rattle.std.specs.Fmt.{signed_decimal}
use Rattle.std.proofs.lemmas.Bool.Decides.{nat_tests}
use Rattle.cal_units.specs.YearText.{year_text}
use Rattle.cal_units.proofs.Decimals.{decimals-few}
use Rattle.cal_units.proofs.Digits.{length-32_bits, length-128_bits}
use Rattle.cal_units.proofs.YearTexts.{year_lengths}

pub length-signed : (z : ℤ) → unsigned_abs z < 2 ^ 32 → length (signed_decimal z) ≤ 11
length-signed (pos n) small = omega (arith, length-32_bits n small)
length-signed (negsuc n) small = omega (arith, length-32_bits (suc n) small)

pub length-signed_wide : (z : ℤ) → unsigned_abs z < 2 ^ 128 → length (signed_decimal z) ≤ 40
length-signed_wide (pos n) small = omega (arith, length-128_bits n small)
length-signed_wide (negsuc n) small = omega (arith, length-128_bits (suc n) small)

pub length-year : (y : ℤ) → unsigned_abs y < 1_000_000 → length (year_text y) ≤ 7
length-year y small = grind (arith, nat_tests, year_lengths)

pub ruleset text_lengths = (length-signed, length-signed_wide, length-year, decimals-few)
