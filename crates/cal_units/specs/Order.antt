-- Natural numbers are ordered like the integers that they equal.
use Rattle.std.specs.Prelude.{◌≡◌, ℕ, pos, unsigned_abs}
use Rattle.std.specs.Ordering.{nat_cmp, int_cmp}
use Rattle.std.proofs.Common.{arith, ap}
use Rattle.std.proofs.lemmas.Int.{ints}
use Rattle.std.proofs.lemmas.Bool.Decides.{nat_tests}

-- Comparing two natural numbers gives the same result as comparing them as integers.
pub nat_cmp-pos : (x y : ℕ) → nat_cmp x y ≡ int_cmp (pos x) (pos y)
nat_cmp-pos x y = grind (arith, ints, nat_tests)

-- Two natural numbers are equal if they are equal as integers.
pub same-pos : (x y : ℕ) → pos x ≡ pos y → x ≡ y
same-pos x y e = ap unsigned_abs e
