-- The first line that begins an event.
use Rattle.std.proofs.Common.{◌≡◌, ℕ, ◌+◌, Bool, true, false, cond, List, [], ◌∷◌, ◌++◌, length, Option, Some, None, ap, sym, ◌∙◌, arith}
use Rattle.std.specs.List.{position, position_from}
use Rattle.std.proofs.lemmas.Iterator.Adapters.{position_from-zero}

-- a test failed, as there is no result
pub skip : {X Y : Type 0} (b : Bool) (x : X) (o : Option X) (a c d : Y) → cond b (Some x) o ≡ None → (o ≡ None → c ≡ d) → cond b a c ≡ d
skip true x o a c d e h = absurd (cc)
skip false x o a c d e h = h e

found-from : (p : List ℕ → Bool) (i : ℕ) (xs : List (List ℕ)) (y : List ℕ) (ys : List (List ℕ)) → position_from p i xs ≡ None → p y ≡ true
    → position_from p i (xs ++ y ∷ ys) ≡ Some (i + length xs)
found-from p i [] y ys none here = ap (λ b. cond b (Some i) (position_from p (i + 1) ys)) here ∙ ap Some (omega arith)
found-from p i (x ∷ xs) y ys none here =
    skip (p x) i (position_from p (i + 1) xs) (Some i) (position_from p (i + 1) (xs ++ y ∷ ys)) (Some (i + length (x ∷ xs))) none
    (λ e. found-from p (i + 1) xs y ys e here ∙ ap Some (omega arith))

none-from : (p : List ℕ → Bool) (i : ℕ) (xs : List (List ℕ)) (y : List ℕ) → position_from p i xs ≡ None → p y ≡ false → position_from p i (xs ++ y ∷ []) ≡ None
none-from p i [] y none here = ap (λ b. cond b (Some i) None) here
none-from p i (x ∷ xs) y none here =
    skip (p x) i (position_from p (i + 1) xs) (Some i) (position_from p (i + 1) (xs ++ y ∷ [])) None none (λ e. none-from p (i + 1) xs y e here)

-- no line before this one passes, and it does
pub found-here : (p : List ℕ → Bool) (xs : List (List ℕ)) (y : List ℕ) (ys : List (List ℕ)) → position p xs ≡ None → p y ≡ true → position p (xs ++ y ∷ ys) ≡ Some (length xs)
found-here p xs y ys none here = position_from-zero p (xs ++ y ∷ ys) ∙ found-from p 0 xs y ys (sym (position_from-zero p xs) ∙ none) here ∙ ap Some (omega arith)

-- neither does this one
pub none-more : (p : List ℕ → Bool) (xs : List (List ℕ)) (y : List ℕ) → position p xs ≡ None → p y ≡ false → position p (xs ++ y ∷ []) ≡ None
none-more p xs y none here = position_from-zero p (xs ++ y ∷ []) ∙ none-from p 0 xs y (sym (position_from-zero p xs) ∙ none) here
