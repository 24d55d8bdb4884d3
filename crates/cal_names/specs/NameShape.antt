-- The bytes of one of the names of a table, as a shape.
use Rattle.std.specs.Prelude.{ℕ, zero, suc, ◌==◌, List, [], ◌∷◌, Bool, true, false, length, max, if◌then◌else◌}
use Rattle.cal_text.specs.Shape.{Shape, Byte, Branch}

abbrev pub add_if : Bool → List ℕ → List (List ℕ) → List (List ℕ)
add_if true xs names = xs ∷ names
add_if false xs names = names

-- The other bytes of the names that begin with the byte b.
abbrev pub after : ℕ → List (List ℕ) → List (List ℕ)
after b [] = []
after b ([] ∷ names) = after b names
after b ((x ∷ xs) ∷ names) = add_if (x == b) xs (after b names)

-- One of the names has no bytes left.
abbrev pub has_end : List (List ℕ) → Bool
has_end [] = false
has_end ([] ∷ names) = true
has_end ((x ∷ xs) ∷ names) = has_end names

abbrev pub first_byte : List (List ℕ) → ℕ
first_byte ((x ∷ xs) ∷ names) = x
first_byte _ = 0

-- A shape for each byte with which a name begins, and the shape `none` for other bytes.
unfoldable pub Heads : List (List ℕ) → (ℕ → Shape) → Shape → Shape
Heads [] step none = none
Heads ([] ∷ names) step none = Heads names step none
Heads ((x ∷ xs) ∷ names) step none = Branch x 0 (step x) (Heads names step none)

-- No name goes on: a name ends here, and then comes f. Without such a name only the first byte of a
-- name fits.
abbrev pub Last : List (List ℕ) → Shape → Shape
Last names f = if has_end names then f else Byte (first_byte names) f

-- One of the names, of at most k bytes, and then f. A name goes on as far as the bytes of a name do.
unfoldable pub NamesShape : ℕ → List (List ℕ) → Shape → Shape
NamesShape zero names f = Last names f
NamesShape (suc k) names f = Heads names (λ b. NamesShape k (after b names) f) (Last names f)

abbrev pub longest : List (List ℕ) → ℕ
longest [] = 0
longest (x ∷ names) = max (length x) (longest names)

abbrev pub TableShape : List (List ℕ) → Shape → Shape
TableShape names f = NamesShape (longest names) names f
