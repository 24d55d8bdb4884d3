-- The lines of an input, and the words of a line.
use Rattle.std.specs.Prelude.{ℕ, List, [], ◌∷◌, ◌==◌}
use Rattle.std.specs.List.{slice_split}

-- The parts without the last one if it is empty.
abbrev pub without_empty_last : List (List ℕ) → List (List ℕ)
without_empty_last [] = []
without_empty_last ([] ∷ []) = []
without_empty_last (part ∷ parts) = part ∷ without_empty_last parts

-- The input is split at each line end, the byte 10. The bytes after the last line end are a line if
-- they aren't empty.
abbrev pub lines_of : List ℕ → List (List ℕ)
lines_of input = without_empty_last (slice_split (λ b. b == 10) input)

-- A line is split at each space, the byte 32, so two spaces in a row have an empty word between
-- them.
abbrev pub words_of : List ℕ → List (List ℕ)
words_of line = slice_split (λ b. b == 32) line
