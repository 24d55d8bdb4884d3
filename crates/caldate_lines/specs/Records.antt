-- The records of RFC 4180.
use Rattle.std.specs.Prelude.{◌≡◌, ℕ, ◌==◌, ◌<◌, false, List, [], ◌∷◌, ◌++◌, All, length, slice_index}
use Rattle.std.specs.List.{join_with_byte}
use Rattle.caldate_lines.specs.Fields.{is_quote}
use Rattle.caldate_lines.specs.Lines.{is_end}

-- The text between two quotes: each quote in it is doubled.
pub data IsEscaped : List ℕ → Type 0 where
  none : IsEscaped []
  byte : (x : ℕ) (xs : List ℕ) → is_quote x ≡ false → IsEscaped xs → IsEscaped (x ∷ xs)
  doubled : (xs : List ℕ) → IsEscaped xs → IsEscaped (34 ∷ 34 ∷ xs)

-- A field has no quote and no separator, or is in quotes.
pub data IsField (separator : ℕ) : List ℕ → Type 0 where
  bare : (xs : List ℕ) → All (λ x. is_quote x ≡ false) xs → All (λ x. (x == separator) ≡ false) xs → IsField separator xs
  escaped : (xs : List ℕ) → IsEscaped xs → IsField separator (34 ∷ (xs ++ 34 ∷ []))

-- A field of a record that ends with a line feed: only in quotes it has others.
abbrev pub IsRecordField : ℕ → List ℕ → Type 0
IsRecordField separator xs = IsField separator xs × (is_quote (slice_index xs 0) ≡ false → All (λ x. is_end x ≡ false) xs)

abbrev pub IsRecord : ℕ → List (List ℕ) → Type 0
IsRecord separator fields = (0 < length fields) × All (IsRecordField separator) fields

-- The fields of each record with separators between them, and its line feed.
abbrev pub records_text : ℕ → List (List (List ℕ)) → List ℕ
records_text separator [] = []
records_text separator (fields ∷ records) = join_with_byte separator fields ++ 10 ∷ records_text separator records
