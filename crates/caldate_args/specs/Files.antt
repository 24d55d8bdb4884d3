-- Several strings as one input, each with the line feed that its last line may lack.
use Rattle.std.specs.Prelude.{◌≡◌, ◌⊎◌, ◌<◌, ℕ, length, Bool, true, false, not, ⊤, List, [], ◌∷◌, ◌++◌, Option, Some, None, Result, if◌then◌else◌}
use Rattle.caldate_lines.specs.Lines.{is_end}
use Rattle.caldate_lines.specs.Outputs.{WritesPage}
use Rattle.caldate_lines.specs.declared.run_error.RunError.{RunError}

-- A line is unfinished after these bytes, if it was so or not before them.
abbrev pub is_unfinished : Bool → List ℕ → Bool
is_unfinished before [] = before
is_unfinished before (byte ∷ bytes) = is_unfinished (not (is_end byte)) bytes

-- The rest of a string, and a line feed, byte 10, if its last line has none.
abbrev pub finished : Bool → List ℕ → List ℕ
finished before rest = rest ++ (if is_unfinished before rest then 10 ∷ [] else [])

-- The strings, one after another, so that no two lines are joined.
abbrev pub joined : List (List ℕ) → List ℕ
joined [] = []
joined (text ∷ texts) = finished false text ++ joined texts

-- The rest of a string, which may begin in a line, and the strings after it, if all are known.
abbrev pub joined_rest : Bool → Option (List ℕ) → Option (List (List ℕ)) → Option (List ℕ)
joined_rest before (Some rest) (Some later) = Some (finished before rest ++ joined later)
joined_rest before rest later = None

-- The next of these strings, and the strings after it.
abbrev pub IsNext : Option (List (List ℕ)) → Option (List ℕ) → Option (List (List ℕ)) → Type 0
IsNext None text later = ⊤
IsNext (Some texts) (Some text) (Some later) = texts ≡ text ∷ later
IsNext (Some texts) text later = ⊥

-- No string comes after the current one, if that is known.
abbrev pub IsLast : Option (List (List ℕ)) → Type 0
IsLast None = ⊤
IsLast (Some texts) = texts ≡ []

-- Steps of this kind lead from one state to another.
module _ {S : Type 0} (step : S → S → Type 0) where
  pub data Steps : S → S → Type 0 where
    none : (s : S) → Steps s s
    some : (s t end : S) → step s t → Steps t end → Steps s end

-- ---- a file that can't be read
-- Standard error took some words, or after a failed write a beginning of them that is not all.
abbrev pub ReportsFile : Option (List ℕ) → Option (List ℕ) → Type 0
ReportsFile old new = (words : List ℕ) × (outcome : Result Unit RunError) × (0 < length words) × WritesPage words outcome old new

-- From one state to another, a file failed, or nothing was written to standard error.
abbrev pub FailsOrKeeps : {E : Type 0} → Bool → Bool → E → E → Type 0
FailsOrKeeps failed fails old new = (fails ≡ true) ⊎ (fails ≡ failed) × (new ≡ old)
