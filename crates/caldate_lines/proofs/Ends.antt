-- Empty lists.
use Rattle.std.proofs.Common.{◌≡◌, List, [], ◌∷◌, length, refl, arith}

pub empty : {A : Type 0} (xs : List A) → length xs ≡ 0 → xs ≡ []
empty [] e = refl
empty (x ∷ xs) e = absurd (omega (arith, e))
