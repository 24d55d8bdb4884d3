-- Names that a caller gives, at the front of a text.
use Rattle.std.specs.Prelude.{◌+◌, ◌||◌, Bool, take, ◌≡◌, ℕ, ◌<◌, ◌≤◌, true, false, List, [], ◌∷◌, ◌++◌, length, Option, Some, slice_get, MatchOption, map, get_or}
use Rattle.std.specs.Borrow.{Bor}
use Rattle.cal_names.specs.Names.{begins_with}

-- The bytes of names.
abbrev pub texts : List (Bor (List ℕ)) → List (List ℕ)
texts names = map (λ name. name.now) names

-- The bytes of the name n, or none past the names.
abbrev pub text_at : List (Bor (List ℕ)) → ℕ → List ℕ
text_at names n = get_or (texts names) n []

-- None of the first `end` names begins the text.
abbrev pub NoName : List (List ℕ) → List ℕ → ℕ → Type 0
NoName names text end = (n : ℕ) (x : List ℕ) → n < end → slice_get names n ≡ Some x → begins_with x text ≡ false

-- The name n is the longest of the first `end` names that begin the text.
pub record IsLongest (names : List (List ℕ)) (text : List ℕ) (end n : ℕ) : Type 0 where
  pub name : List ℕ
  pub is_name : slice_get names n ≡ Some name
  pub begins : begins_with name text ≡ true
  pub most : (m : ℕ) (x : List ℕ) → m < end → slice_get names m ≡ Some x → begins_with x text ≡ true → length x ≤ length name

-- r is the longest of the first `end` names that begin the text, or `None` without one.
abbrev pub IsFound : List (List ℕ) → List ℕ → ℕ → Option ℕ → Type 0
IsFound names text end r = MatchOption r (NoName names text end) (IsLongest names text end)

-- The name n ends before the rest: only the name n itself begins with its bytes and begins the text
-- of the name and the rest.
pub record Ends (names : List (List ℕ)) (n : ℕ) (name rest : List ℕ) : Type 0 where
  pub is_name : slice_get names n ≡ Some name
  pub alone : (m : ℕ) (x : List ℕ) → slice_get names m ≡ Some x → begins_with name x ≡ true → begins_with x (name ++ rest) ≡ true → m ≡ n

-- No name begins another one, or is the same.
abbrev pub AreApart : List (List ℕ) → Type 0
AreApart names = (i j : ℕ) (x y : List ℕ) → slice_get names i ≡ Some x → slice_get names j ≡ Some y → begins_with x y ≡ true → i ≡ j

-- The name i begins none of the first `end` names except itself.
abbrev pub IsApart : List (List ℕ) → ℕ → ℕ → Type 0
IsApart names i end = (j : ℕ) (x y : List ℕ) → j < end → slice_get names i ≡ Some x → slice_get names j ≡ Some y → begins_with x y ≡ true → i ≡ j

-- No two names are the same.
abbrev pub AreDistinct : List (List ℕ) → Type 0
AreDistinct names = (i j : ℕ) (x : List ℕ) → slice_get names i ≡ Some x → slice_get names j ≡ Some x → i ≡ j

-- None of the first `end` names is the name i, except itself.
abbrev pub IsDistinct : List (List ℕ) → ℕ → ℕ → Type 0
IsDistinct names i end = (j : ℕ) (x : List ℕ) → j < end → slice_get names i ≡ Some x → slice_get names j ≡ Some x → i ≡ j

-- The name j is the name i, the byte b and more.
abbrev pub IsContinued : List ℕ → ℕ → List ℕ → Type 0
IsContinued x b y = (more : List ℕ) × (y ≡ x ++ b ∷ more)

-- No name goes on with the byte b to another one.
abbrev pub NoneContinued : List (List ℕ) → ℕ → Type 0
NoneContinued names b = (i j : ℕ) (x y : List ℕ) → slice_get names i ≡ Some x → slice_get names j ≡ Some y → ¬ (IsContinued x b y)

-- None of the first `end` names is the name i, the byte b and more.
abbrev pub NoneGoesOn : List (List ℕ) → ℕ → ℕ → ℕ → Type 0
NoneGoesOn names i end b = (j : ℕ) (x y : List ℕ) → j < end → slice_get names i ≡ Some x → slice_get names j ≡ Some y → ¬ (IsContinued x b y)

-- One of the names begins with these bytes.
abbrev pub any_begins : List ℕ → List (List ℕ) → Bool
any_begins front [] = false
any_begins front (x ∷ names) = begins_with front x || any_begins front names

-- A name begins with the first n bytes of the text, and with no further byte of it.
pub record IsReach (names : List (List ℕ)) (text : List ℕ) (n : ℕ) : Type 0 where
  pub within : n ≤ length text
  pub begun : any_begins (take n text) names ≡ true
  pub stuck : n < length text → any_begins (take (n + 1) text) names ≡ false
