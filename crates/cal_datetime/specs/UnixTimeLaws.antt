-- Laws for callers: a number of nanoseconds as whole seconds and the rest.
use Rattle.std.proofs.Common.{◌≡◌, arith, ℤ, pos, negsuc, ◌+ℤ◌, ◌*ℤ◌, ◌≤ℤ◌, ◌<ℤ◌}
use Rattle.std.proofs.lemmas.Int.{ints}
use Rattle.std.specs.Int.{int_div_euclid, int_rem_euclid}
use Rattle.cal_time.specs.SignedDuration.{second}

-- z nanoseconds are q whole seconds, rounded down, if they are q seconds or more and less than q +
-- 1 seconds.
pub div_euclid-one : (z q : ℤ) → (q *ℤ pos second) ≤ℤ z → z <ℤ (q *ℤ pos second +ℤ pos second) → int_div_euclid z (pos second) ≡ q
div_euclid-one (pos a) (pos b) low high = omega (arith, ints)
div_euclid-one (pos a) (negsuc b) low high = omega (arith, ints)
div_euclid-one (negsuc a) (pos b) low high = omega (arith, ints)
div_euclid-one (negsuc a) (negsuc b) low high = omega (arith, ints)

-- A number of nanoseconds is its whole seconds, rounded down, and the nanoseconds past them.
pub seconds-and_past : (z : ℤ) → z ≡ int_div_euclid z (pos second) *ℤ pos second +ℤ int_rem_euclid z (pos second)
seconds-and_past (pos n) = omega (arith, ints)
seconds-and_past (negsuc n) = omega (arith, ints)
