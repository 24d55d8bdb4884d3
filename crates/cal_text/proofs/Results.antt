-- Equal results have equal values.
use Rattle.std.proofs.Common.{◌≡◌, Result, Ok, Err, ap}

-- An error is different from a value.
pub not_ok : {A E : Type 0} (e : E) (a : A) → ◌≡◌ {A = Result A E} (Err e) (Ok a) → ⊥
not_ok e a h = cc

-- a value is one
pub one : {A E : Type 0} (a b : A) → ◌≡◌ {A = Result A E} (Ok a) (Ok b) → a ≡ b
one a b h = cc

-- the same value, taken further
pub same_mapped : {A B E : Type 0} (f : A → B) (a b : A) → ◌≡◌ {A = Result A E} (Ok a) (Ok b) → ◌≡◌ {A = Result B E} (Ok (f a)) (Ok (f b))
same_mapped f a b h = ap (λ x. Ok (f x)) (one a b h)
