-- The lines of a whole input.
use Rattle.std.specs.Prelude.{ℕ, Bool, not, ◌&&◌, List, [], ◌∷◌, ◌++◌, ◌==◌, length, Option, if◌then◌else◌}
use Rattle.caldate_lines.specs.Lines.{all_lines, has_return, unended}
use Rattle.caldate_lines.specs.declared.field.Field.{Field}

-- A quote is open at the end of the input: a line feed after it wouldn't end its last line.
abbrev pub ends_in_quotes : Option Field → List ℕ → Bool
ends_in_quotes field input = not (length (unended field (input ++ 10 ∷ [])) == 0)

-- A carriage return within quotes is part of a field. At the end of the input another one follows it,
-- as the end of its line.
abbrev pub with_return : Option Field → List ℕ → List ℕ
with_return field input = if has_return (unended field input) && ends_in_quotes field input then input ++ 13 ∷ [] else input

abbrev pub whole_lines : Option Field → List ℕ → List (List ℕ)
whole_lines field input = all_lines field (with_return field input)
