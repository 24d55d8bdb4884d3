-- The lines of an input, or its CSV records, and the text of a line.
use Rattle.std.specs.Prelude.{ℕ, ◌-◌, Bool, List, [], ◌∷◌, ◌==◌, length, take, Option, Some, None, slice_index, if◌then◌else◌}
use Rattle.std.specs.List.{slice_split}
use Rattle.caldate_lines.specs.Fields.{split_outside_quotes}
use Rattle.caldate_lines.specs.declared.quoting.Quoting.{Quoting}
use Rattle.caldate_lines.specs.declared.quoting.Quoting.TheVariants.{Off, Ready}
use Rattle.caldate_lines.specs.declared.field.Field.{Field}

-- A line feed, byte 10, ends a line.
abbrev pub is_end : ℕ → Bool
is_end byte = byte == 10

-- The parts, without a last one that is empty.
abbrev pub without_empty_last : List (List ℕ) → List (List ℕ)
without_empty_last [] = []
without_empty_last ([] ∷ []) = []
without_empty_last (part ∷ parts) = part ∷ without_empty_last parts

-- The input is split at each line feed. The bytes after the last one are a line if there are any.
abbrev pub lines_of : List ℕ → List (List ℕ)
lines_of input = without_empty_last (slice_split is_end input)

-- ---- the lines that a run answers
-- Between line feeds, or with --csv between line feeds outside of quotes.
abbrev pub separator_of : Option Field → ℕ
separator_of None = 10
separator_of (Some field) = field.separator

abbrev pub quotes_in : Option Field → Quoting → Quoting
quotes_in None quoting = Off
quotes_in (Some field) quoting = if field.csv then quoting else Off

abbrev pub split_from : Option Field → Quoting → List ℕ → List (List ℕ)
split_from field quoting bytes = split_outside_quotes 10 (separator_of field) (quotes_in field Ready) (quotes_in field quoting) bytes

abbrev pub split_input : Option Field → List ℕ → List (List ℕ)
split_input field input = split_from field Ready input

-- All of them. The bytes after the last one that has ended are one more if there are any.
abbrev pub all_lines : Option Field → List ℕ → List (List ℕ)
all_lines field input = without_empty_last (split_input field input)

-- The parts, without the last one.
abbrev pub without_last : List (List ℕ) → List (List ℕ)
without_last [] = []
without_last (part ∷ []) = []
without_last (part ∷ parts) = part ∷ without_last parts

-- The lines that have ended with their line feed.
abbrev pub ended_lines : Option Field → List ℕ → List (List ℕ)
ended_lines field input = without_last (split_input field input)

-- The bytes after them.
abbrev pub last_part : List (List ℕ) → List ℕ
last_part [] = []
last_part (part ∷ []) = part
last_part (part ∷ parts) = last_part parts

abbrev pub unended : Option Field → List ℕ → List ℕ
unended field input = last_part (split_input field input)

-- ---- the text of a line
-- The last byte of the line is a carriage return, byte 13.
abbrev pub has_return : List ℕ → Bool
has_return line = slice_index line (length line - 1) == 13

-- The text of a line, without its carriage return.
abbrev pub text_of : List ℕ → List ℕ
text_of line = if has_return line then take (length line - 1) line else line

-- A line ends with CR LF or LF.
abbrev pub end_of : List ℕ → List ℕ
end_of line = if has_return line then 13 ∷ 10 ∷ [] else 10 ∷ []
