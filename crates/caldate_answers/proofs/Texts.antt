-- The days between two days.
use Rattle.std.proofs.Common.{◌≡◌, ℕ, ◌<◌, ap, ◌∙◌, arith, ℤ, pos, negsuc, ◌-ℤ◌, unsigned_abs, to_z, of_z, w32, FitsSigned}
use Rattle.std.proofs.lemmas.Int.{ints, to_z-of_z}
use Rattle.cal_time.specs.Date.{IsDate, julian_day_at}

-- the days between two days of the range, as 32 bits count them
small : (z : ℤ) → unsigned_abs z < 2000000000 → FitsSigned w32 z
small (pos n) h = record { sfits = grind (arith, ints) }
small (negsuc n) h = record { sfits = grind (arith, ints) }

pub days_between : (n m : ℕ) (a b : ℤ) → IsDate n → IsDate m → a ≡ julian_day_at n → b ≡ julian_day_at m
    → to_z w32 (of_z w32 (to_z w32 (of_z w32 a) -ℤ to_z w32 (of_z w32 b))) ≡ julian_day_at n -ℤ julian_day_at m
days_between n m a b d e p q =
    let x : to_z w32 (of_z w32 a) ≡ julian_day_at n = ap (λ z. to_z w32 (of_z w32 z)) p ∙ to_z-of_z w32 (julian_day_at n) (small (julian_day_at n) (omega (arith, ints, d))) in
    let y : to_z w32 (of_z w32 b) ≡ julian_day_at m = ap (λ z. to_z w32 (of_z w32 z)) q ∙ to_z-of_z w32 (julian_day_at m) (small (julian_day_at m) (omega (arith, ints, e))) in
    ap (λ z. to_z w32 (of_z w32 (z -ℤ to_z w32 (of_z w32 b)))) x ∙ ap (λ z. to_z w32 (of_z w32 (julian_day_at n -ℤ z))) y
    ∙ to_z-of_z w32 (julian_day_at n -ℤ julian_day_at m) (small (julian_day_at n -ℤ julian_day_at m) (omega (arith, ints, d, e)))
