-- The formats and tables whose texts have one value, and why others don't.
use Rattle.std.specs.Prelude.{◌≡◌, ◌≢◌, ℕ, ◌+◌, ◌<◌, ◌≤◌, ◌⊎◌, List, [], ◌∷◌, ◌++◌, length, get_or}
use Rattle.cal_format.specs.declared.item.Item.{Item}
use Rattle.cal_format.specs.declared.item.Item.TheVariants as item
use Rattle.cal_format.specs.declared.item.Padding.TheVariants as padding
use Rattle.cal_names.specs.declared.names.Names.{Names}
use Rattle.cal_named_format.specs.declared.error.NamesError.{NamesError}
use Rattle.cal_named_format.specs.declared.error.NamesError.TheVariants.{AmbiguousNames, AmbiguousNumber}
use Rattle.cal_named_format.specs.Named.{table_of, CanBegin}

-- A text of the items can begin with the first of these bytes, or there are none.
abbrev pub CanGoOn : Names → List Item → List ℕ → Type 0
CanGoOn t items [] = Unit {0}
CanGoOn t items (b ∷ more) = CanBegin t items b

-- The name y is the name x, or x goes on to y with a byte with which a text of the items can begin.
abbrev pub AreAmbiguous : Names → List Item → List ℕ → List ℕ → Type 0
AreAmbiguous t items x y = (more : List ℕ) × (y ≡ x ++ more) × CanGoOn t items more

-- The names i and j of a table are ambiguous before the items.
pub record Ambiguous (names : List (List ℕ)) (t : Names) (items : List Item) (i j : ℕ) : Type 0 where
  pub apart : j ≢ i
  pub within : i < length names
  pub other_within : j < length names
  pub ambiguous : AreAmbiguous t items (get_or names i []) (get_or names j [])

abbrev pub IsDigit : ℕ → Type 0
IsDigit b = (48 ≤ b) × (b ≤ 57)

-- An item goes on with the byte b: a number without padding and a fraction with a digit, a fraction
-- that may be empty with a point, and a sign that may be missing with a minus sign.
abbrev pub GoesOn : Item → ℕ → Type 0
GoesOn (item.Number c padding.None) b = IsDigit b
GoesOn (item.Signed c padding.None) b = IsDigit b
GoesOn item.Decimals b = IsDigit b
GoesOn item.Fraction b = IsDigit b ⊎ (b ≡ 46)
GoesOn item.OffsetMinus b = b ≡ 45
GoesOn item.TimestampMinus b = b ≡ 45
GoesOn i b = ⊥

-- The item ends before the items after it: no two names of its table are ambiguous, or no byte with
-- which it goes on begins a text of these items.
abbrev pub EndsBefore : Names → Item → List Item → Type 0
EndsBefore t (item.Name k) items = (i j : ℕ) → ¬ Ambiguous (table_of t k) t items i j
EndsBefore t i items = (b : ℕ) → GoesOn i b → ¬ CanBegin t items b

-- The texts with these names read back: each item ends before the items after it.
abbrev pub ReadBack : Names → List Item → Type 0
ReadBack t [] = Unit {0}
ReadBack t (i ∷ items) = EndsBefore t i items × ReadBack t items

-- The first number with P, and the first pair: by its first number, and then by its second.
pub record IsFirst (P : ℕ → Type 0) (n : ℕ) : Type 0 where
  pub is : P n
  pub before : (m : ℕ) → m < n → ¬ P m

pub record IsFirstPair (P : ℕ → ℕ → Type 0) (i j : ℕ) : Type 0 where
  pub other : IsFirst (P i) j
  pub before : (m n : ℕ) → m < i → ¬ P m n

-- The error of an item with the index `at` before other items: the first two ambiguous names of its
-- table, or the first byte with which the item goes on and the others can begin.
abbrev pub IsItemError : Names → Item → List Item → ℕ → NamesError → Type 0
IsItemError t (item.Name k) items at (AmbiguousNames n i j) = (n ≡ at) × IsFirstPair (Ambiguous (table_of t k) t items) i j
IsItemError t (item.Name k) items at (AmbiguousNumber n b) = ⊥
IsItemError t i items at (AmbiguousNames n j k) = ⊥
IsItemError t i items at (AmbiguousNumber n b) = (n ≡ at) × IsFirst (λ c. GoesOn i c × CanBegin t items c) b

-- The error of the first item that doesn't end before the items after it. The items are counted from
-- `at`.
abbrev pub IsNamesError : Names → List Item → ℕ → NamesError → Type 0
IsNamesError t [] at e = ⊥
IsNamesError t (i ∷ items) at e = IsItemError t i items at e ⊎ (EndsBefore t i items × IsNamesError t items (at + 1) e)
