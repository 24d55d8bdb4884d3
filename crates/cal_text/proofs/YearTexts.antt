-- The year of a date in text as a number of 32 bits.
use Rattle.std.proofs.Common.{◌≡◌, ℕ, ◌<◌, ◌^◌, ℤ, pos, negsuc, to_z, of_z, w32, arith}
use Rattle.std.proofs.lemmas.Int.{ints, to_z-of_z}
use Rattle.cal_text.specs.DateForms.{IsPrintableYear}

-- a magnitude as a number of 32 bits with a sign
pub plain-cast : (m : ℕ) → m < 10 ^ 9 → to_z w32 m ≡ pos m
plain-cast m small = grind (arith, ints)

pub written-cast : (y : ℤ) → IsPrintableYear y → to_z w32 (of_z w32 y) ≡ y
written-cast (pos n) small = to_z-of_z w32 (pos n) (record { sfits = grind (arith, ints) })
written-cast (negsuc k) small = to_z-of_z w32 (negsuc k) (record { sfits = grind (arith, ints) })
