-- Minimum, maximum and order of a list whose items have numbers.
use Rattle.std.specs.Prelude.{◌≡◌, ℤ, ◌≤ℤ◌, ◌<ℤ◌, List, ◌∷◌, ◌++◌, length}
use Rattle.std.specs.List.{All, AllAdjacentBelow}

-- x is an item of the list. P is true of each item before it, and Q of each item after it.
pub record IsItemBetween {T : Type 0} (P Q : T → Type 0) (items : List T) (x : T) : Type 0 where
  pub before : List T
  pub after : List T
  pub place : items ≡ before ++ x ∷ after
  pub earlier : All P before
  pub later : All Q after

-- x is the first item with the minimum number.
abbrev pub IsFirstMinimum : {T : Type 0} → (T → ℤ) → List T → T → Type 0
IsFirstMinimum number items x = IsItemBetween (λ item. number x <ℤ number item) (λ item. number x ≤ℤ number item) items x

-- x is the first item with the maximum number.
abbrev pub IsFirstMaximum : {T : Type 0} → (T → ℤ) → List T → T → Type 0
IsFirstMaximum number items x = IsItemBetween (λ item. number item <ℤ number x) (λ item. number item ≤ℤ number x) items x

-- The ends are the first item with the minimum number and the first item with the maximum number.
pub record IsExtent {T : Type 0} (number : T → ℤ) (items : List T) (ends : T × T) : Type 0 where
  pub minimum : IsFirstMinimum number items ends.0
  pub maximum : IsFirstMaximum number items ends.1

-- The number of each item is less than the number of the next item.
abbrev pub IsRising : {T : Type 0} → (T → ℤ) → List T → Type 0
IsRising number items = AllAdjacentBelow (λ x y. number x <ℤ number y) items (length items)
