-- Numbers in ascending order, each once.
use Rattle.std.specs.Prelude.{◌≡◌, ℕ, ◌+◌, ◌-◌, ◌<◌, ◌≤◌, ℤ, pos, ◌<ℤ◌, ◌≤ℤ◌, List, Contains, get_or, length}

-- The first n numbers of the list after are those of the list before, each once and in ascending order.
pub record AreSortedOnce (before after : List ℤ) (n : ℕ) : Type 0 where
  pub within : n ≤ length after
  pub rising : (i : ℕ) → i + 1 < n → get_or after i (pos 0) <ℤ get_or after (i + 1) (pos 0)
  pub old : (i : ℕ) → i < n → Contains before (get_or after i (pos 0))
  pub all : (x : ℤ) → Contains before x → (i : ℕ) × (i < n) × (get_or after i (pos 0) ≡ x)

-- Number i of a sorted list is the first one, or greater than the last one that is kept; or it isn't.
abbrev pub IsGreater : List ℤ → ℕ → ℕ → Type 0
IsGreater xs kept i = 0 < kept → get_or xs (kept - 1) (pos 0) <ℤ get_or xs i (pos 0)

abbrev pub IsAgain : List ℤ → ℕ → ℕ → Type 0
IsAgain xs kept i = (0 < kept) × (get_or xs i (pos 0) ≤ℤ get_or xs (kept - 1) (pos 0))
