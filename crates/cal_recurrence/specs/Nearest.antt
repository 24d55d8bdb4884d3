-- The nearest value after or before another value.
use Rattle.std.specs.Prelude.{◌≡◌, Bool, true, false, Option, MatchOption}
use Rattle.std.specs.Ordering.{is_lt}
use Rattle.std.specs.declared.cmp.Ordering.{Ordering}

-- x is past y: after it if `forward` is true, and before it if not.
abbrev pub is_past : {X : Type 0} → (X → X → Ordering) → Bool → X → X → Bool
is_past cmp true x y = is_lt (cmp y x)
is_past cmp false x y = is_lt (cmp x y)

-- y is past x and passes a test, and no value between them passes.
pub record IsFirstPast {X : Type 0} (past : X → X → Bool) (test : X → Bool) (x y : X) : Type 0 where
  pub beyond : past y x ≡ true
  pub passes : test y ≡ true
  pub none_between : (k : X) → past k x ≡ true → past y k ≡ true → test k ≡ false

-- r is the nearest value past x that passes a test, or `None` without one.
abbrev pub IsNearest : {X : Type 0} → (X → X → Bool) → (X → Bool) → X → Option X → Type 0
IsNearest past test x r = MatchOption r ((k : _) → past k x ≡ true → test k ≡ false) (IsFirstPast past test x)
