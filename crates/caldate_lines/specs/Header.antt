-- The header, the first line of an input, and fields by their names in it.
use Rattle.std.specs.Prelude.{◌⊎◌, ℕ, ◌+◌, ◌<◌, ◌==◌, ◌&&◌, nat_lt, Bool, List, [], ◌∷◌, bytes_eq, drop, length, slice_index, Option, Some, None, Result, Ok, Err, if◌then◌else◌}
use Rattle.std.specs.Option.{option_map_or}
use Rattle.std.specs.Io.KnownBytes.{IsAtEnd}
use Rattle.caldate_lines.specs.Fields.{field_text, fields_of}
use Rattle.caldate_lines.specs.Lines.{split_input, text_of}
use Rattle.caldate_lines.specs.Room.{longest_text}
use Rattle.caldate_lines.specs.declared.field.Field.{Field}

-- ---- the header
-- The text of the first line, which may not have its line feed.
abbrev pub first_part : List (List ℕ) → List ℕ
first_part [] = []
first_part (part ∷ parts) = part

abbrev pub header_of : Field → List ℕ → List ℕ
header_of field input = text_of (first_part (split_input (Some field) input))

-- A line ends within the bytes.
abbrev pub HasLine : Field → List ℕ → Type 0
HasLine field bytes = 1 < length (split_input (Some field) bytes)

-- The bytes have the whole header, or more bytes than a line may have.
abbrev pub HasHeader : Field → Option (List ℕ) → List ℕ → Type 0
HasHeader field left bytes = HasLine field bytes ⊎ (IsAtEnd left ⊎ (longest_text + 1 < length bytes))

-- ---- names
abbrev pub has_name : Field → List ℕ → List ℕ → Bool
has_name field name part = bytes_eq (field_text field.csv part) name

-- The number of the first of these fields that has the name, counted from n.
abbrev pub name_number : ℕ → Field → List ℕ → List (List ℕ) → Option ℕ
name_number n field name [] = None
name_number n field name (part ∷ parts) = if has_name field name part then Some n else name_number (n + 1) field name parts

-- The header without the byte order mark of UTF-8 at its front, the bytes EF BB BF.
abbrev pub has_mark : List ℕ → Bool
has_mark header = slice_index header 0 == 239 && (slice_index header 1 == 187 && slice_index header 2 == 191)

abbrev pub without_mark : List ℕ → List ℕ
without_mark header = if has_mark header then drop 3 header else header

-- The number that the header gives the name. A header that is too long gives none.
abbrev pub number_of : Field → List ℕ → List ℕ → Option ℕ
number_of field name header =
    if nat_lt longest_text (length header) then None else name_number 1 field name (fields_of field (without_mark header))

-- ---- a run with names of fields
-- The number that the header gives a name, if there is a name. A name that the header lacks is an
-- error.
abbrev pub number_in : Field → List ℕ → Option (List ℕ) → Result (Option ℕ) (List ℕ)
number_in field header None = Ok None
number_in field header (Some name) = option_map_or (λ n. Ok (Some n)) (number_of field name header) (Err name)

-- What f makes of both values, or the first error.
abbrev pub of_both : {X Y Z : Type 0} → (X → Y → Z) → Result X (List ℕ) → Result Y (List ℕ) → Result Z (List ℕ)
of_both f (Ok x) (Ok y) = Ok (f x y)
of_both f (Ok x) (Err name) = Err name
of_both f (Err name) other = Err name

-- The number of each name.
abbrev pub numbers_of : Field → List ℕ → List (Option (List ℕ)) → Result (List (Option ℕ)) (List ℕ)
numbers_of field header [] = Ok []
numbers_of field header (name ∷ names) = of_both (λ n others. n ∷ others) (number_in field header name) (numbers_of field header names)
