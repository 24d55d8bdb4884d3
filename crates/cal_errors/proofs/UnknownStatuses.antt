-- Numbers that aren't a status.
use Rattle.std.proofs.Common.{◌≡◌, ℕ, zero, suc, ◌≤◌, List, [], ◌∷◌, length, ℤ, pos, negsuc, ◌<ℤ◌, ◌≤ℤ◌, refl, arith}
use Rattle.std.specs.Prelude.{codes, slice_index_or}
use Rattle.std.proofs.lemmas.Int.{ints}
use Rattle.cal_errors.specs.Statuses.{sentence, sentences}

past : {X : Type 0} (xs : List X) (n : ℕ) (d : X) → length xs ≤ n → slice_index_or xs n d ≡ d
past [] n d le = refl
past (x ∷ xs) zero d le = absurd (omega (arith, le))
past (x ∷ xs) (suc n) d le = past xs n d (omega (arith, le))

count : length sentences ≡ 95
unfolding sentences
count = refl

pub negative : (s : ℤ) → s <ℤ pos 0 → sentence s ≡ codes "unknown error"
unfolding sentence
negative (pos n) lt = absurd (omega (arith, ints, lt))
negative (negsuc n) lt = refl

pub too_high : (s : ℤ) → pos 95 ≤ℤ s → sentence s ≡ codes "unknown error"
unfolding sentence
too_high (pos n) le = past sentences n (codes "unknown error") (omega (arith, ints, le, count))
too_high (negsuc n) le = absurd (omega (arith, ints, le))

pub ruleset unknown_statuses = (negative, too_high)
