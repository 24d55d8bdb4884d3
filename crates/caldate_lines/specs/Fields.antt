-- The part of a line to answer: all of its text, or some of its fields.
use Rattle.std.specs.Prelude.{◌≡◌, ℕ, ◌+◌, ◌-◌, ◌==◌, ◌&&◌, ◌||◌, not, nat_le, Bool, true, false, List, [], ◌∷◌, ◌++◌, length, take, drop, Option, Some, None, option_map, slice_index, unwrap_or, if◌then◌else◌, nat_lt, get_or}
use Rattle.std.specs.List.{join_with_byte, onto_first}
use Rattle.caldate_lines.specs.declared.quoting.Quoting.{Quoting}
use Rattle.caldate_lines.specs.declared.quoting.Quoting.TheVariants.{Off, Ready, Open, Bare}
use Rattle.caldate_lines.specs.declared.field.Field.{Field}
use Rattle.caldate_lines.specs.declared.field_numbers.FieldNumbers.{FieldNumbers}
use Rattle.caldate_lines.specs.declared.missing_field.MissingField.{MissingField}
use Rattle.caldate_lines.specs.declared.several_fields.RankedField.{RankedField}

-- The same field with other numbers.
abbrev pub with_numbers : Field → FieldNumbers → Field
with_numbers field numbers = record field { first = numbers.first; joined = numbers.joined }

-- ---- several fields
-- A field, if there is one, before those that begin after it.
abbrev pub inserted_if : Option RankedField → List RankedField → List RankedField
inserted_if None fields = fields
inserted_if (Some field) [] = field ∷ []
inserted_if (Some field) (next ∷ fields) = if nat_lt field.numbers.first next.numbers.first then field ∷ next ∷ fields else next ∷ inserted_if (Some field) fields

abbrev pub inserted : RankedField → List RankedField → List RankedField
inserted field fields = inserted_if (Some field) fields

-- The field with its own of these numbers, if that is given.
abbrev pub renumber : List (Option ℕ) → RankedField → RankedField
renumber numbers field = record field { numbers = record { first = unwrap_or (get_or numbers field.rank None) field.numbers.first; joined = field.numbers.joined } }

-- The same for each field, from the left.
abbrev pub renumbered : List (Option ℕ) → List RankedField → List RankedField
renumbered numbers [] = []
renumbered numbers (field ∷ fields) = inserted (renumber numbers field) (renumbered numbers fields)

-- A field begins before the one to its left ends.
abbrev pub overlap_after : ℕ → List RankedField → Bool
overlap_after end [] = false
overlap_after end (field ∷ fields) = nat_le field.numbers.first end || overlap_after (field.numbers.first + field.numbers.joined) fields

abbrev pub overlap : List RankedField → Bool
overlap fields = overlap_after 0 fields

-- ---- names
-- A name stands for each of up to four fields that is given by a name.
abbrev pub no_names : List (Option (List ℕ))
no_names = None ∷ None ∷ None ∷ None ∷ []

-- ---- quotes
-- A quote is byte 34.
abbrev pub is_quote : ℕ → Bool
is_quote byte = byte == 34

-- The quotes of a CSV record after a byte. A quote opens them at the start of a field, and again just
-- after another quote closed them: a doubled quote. In the rest of a field it is an ordinary byte, and
-- everywhere if the line isn't a record.
abbrev pub quoting_after : ℕ → Quoting → ℕ → Quoting
quoting_after separator Off byte = Off
quoting_after separator Ready byte = if is_quote byte then Open else if byte == separator then Ready else Bare
quoting_after separator Open byte = if is_quote byte then Ready else Open
quoting_after separator Bare byte = if byte == separator then Ready else Bare

-- The same after all of these bytes.
abbrev pub quoting_past : ℕ → Quoting → List ℕ → Quoting
quoting_past separator quoting [] = quoting
quoting_past separator quoting (byte ∷ bytes) = quoting_past separator (quoting_after separator quoting byte) bytes

abbrev pub is_open : Quoting → Bool
is_open Open = true
is_open quoting = false

-- The bytes are split at each byte `end` outside of quotes. After it, the quotes are as at the start.
abbrev pub split_outside_quotes : ℕ → ℕ → Quoting → Quoting → List ℕ → List (List ℕ)
split_outside_quotes end separator start quoting [] = [] ∷ []
split_outside_quotes end separator start quoting (byte ∷ bytes) =
    if byte == end && not (is_open quoting) then [] ∷ split_outside_quotes end separator start start bytes else
    onto_first byte (split_outside_quotes end separator start (quoting_after separator quoting byte) bytes)

-- The fields of a text are between separators, and in a CSV record outside of quotes.
abbrev pub quotes_of : Field → Quoting
quotes_of field = if field.csv then Ready else Off

abbrev pub split_fields : ℕ → Quoting → List ℕ → List (List ℕ)
split_fields separator start text = split_outside_quotes separator separator start start text

abbrev pub fields_of : Field → List ℕ → List (List ℕ)
fields_of field text = split_fields field.separator (quotes_of field) text

-- The text doesn't have the last of the fields to answer.
abbrev pub has_too_few : Field → List ℕ → Bool
has_too_few field text = nat_le (length (fields_of field text)) (field.first - 1 + field.joined)

-- The fields to answer, with the separators between them.
abbrev pub joined_fields : Field → List ℕ → List ℕ
joined_fields field text = join_with_byte field.separator (take (field.joined + 1) (drop (field.first - 1) (fields_of field text)))

-- A field of a CSV record may be in quotes (RFC 4180).
abbrev pub is_quoted : Field → List ℕ → Bool
is_quoted field part = field.csv && (nat_le 2 (length part) && (is_quote (slice_index part 0) && is_quote (slice_index part (length part - 1))))

-- The text of a field after its first quote, as Python's csv module reads it: up to the next quote
-- that isn't doubled, which is followed by ordinary bytes. A doubled quote is one.
abbrev pub unquoted : List ℕ → Option (List ℕ)
unquoted [] = None
unquoted (byte ∷ []) = if is_quote byte then Some [] else None
unquoted (byte ∷ next ∷ bytes) =
    if not (is_quote byte) then option_map (λ text. byte ∷ text) (unquoted (next ∷ bytes)) else
    if is_quote next then option_map (λ text. 34 ∷ text) (unquoted bytes) else Some (next ∷ bytes)

-- Without a closing quote, the first one is part of the text.
abbrev pub field_text : Bool → List ℕ → List ℕ
field_text csv [] = []
field_text csv (byte ∷ bytes) = if csv && is_quote byte then unwrap_or (unquoted bytes) (byte ∷ bytes) else byte ∷ bytes

-- ---- words that become a field
-- Between quotes, each quote is doubled.
abbrev pub doubled : List ℕ → List ℕ
doubled [] = []
doubled (byte ∷ bytes) = if is_quote byte then 34 ∷ 34 ∷ doubled bytes else byte ∷ doubled bytes

abbrev pub in_quotes : List ℕ → List ℕ
in_quotes words = 34 ∷ (doubled words ++ 34 ∷ [])

-- A separator, a quote, a line feed and a carriage return come only within quotes.
abbrev pub is_special : ℕ → ℕ → Bool
is_special separator byte = byte == separator || (is_quote byte || (byte == 10 || byte == 13))

abbrev pub needs_quotes : ℕ → List ℕ → Bool
needs_quotes separator [] = false
needs_quotes separator (byte ∷ bytes) = is_special separator byte || needs_quotes separator bytes

-- The words as a field: of a record in quotes only if they must be.
abbrev pub as_field : Field → List ℕ → List ℕ
as_field field words = if field.csv && needs_quotes field.separator words then in_quotes words else words

-- The words in place of a field, which keeps its quotes.
abbrev pub in_place_of : Field → List ℕ → List ℕ → List ℕ
in_place_of field part words = if is_quoted field part then in_quotes words else as_field field words

-- The words are written after the opening quote, if there is one.
abbrev pub escaped : Bool → List ℕ → List ℕ
escaped quoted words = if quoted then doubled words else in_quotes words

abbrev pub end_of_field : Field → Bool → List ℕ → List ℕ
end_of_field field quoted words = if quoted then doubled words ++ 34 ∷ [] else as_field field words

-- ---- a field that is cut out of a text
-- Each of these fields, with a separator after it, or before it.
abbrev pub each_ended : ℕ → List (List ℕ) → List ℕ
each_ended separator [] = []
each_ended separator (part ∷ parts) = part ++ separator ∷ each_ended separator parts

abbrev pub each_begun : ℕ → List (List ℕ) → List ℕ
each_begun separator [] = []
each_begun separator (part ∷ parts) = separator ∷ (part ++ each_begun separator parts)

-- The fields to answer, with the bytes before and after them.
pub record Cut : Type 0 where
  pub front : List ℕ
  pub part : List ℕ
  pub rest : List ℕ

-- The cut of a text that has the fields.
abbrev pub cut_of : Field → List ℕ → Option Cut
cut_of field text =
    if has_too_few field text then None else Some (record {
      front = each_ended field.separator (take (field.first - 1) (fields_of field text));
      part = joined_fields field text;
      rest = each_begun field.separator (drop (field.first - 1 + field.joined + 1) (fields_of field text));
    })

-- The text of the fields, if the text of the line has them.
abbrev pub selected_text : Field → List ℕ → Option (List ℕ)
selected_text field text = option_map (λ cut. field_text field.csv cut.part) (cut_of field text)

-- The last of the fields, and how many fields the text has.
abbrev pub missing_field : Field → List ℕ → MissingField
missing_field field text = record { number = field.first - 1 + field.joined + 1; count = length (fields_of field text) }

-- The words are a new last field.
abbrev pub with_last : Field → List ℕ → List ℕ → List ℕ
with_last field text words = text ++ field.separator ∷ as_field field words

-- The text without an answer. A field that would be new is empty.
abbrev pub text_without : Option Field → List ℕ → List ℕ
text_without None text = text
text_without (Some field) text = if field.appends then text ++ field.separator ∷ [] else text

-- The text begins with this many fields, each with its separator, and the rest has the others.
pub record IsAfter (field : Field) (count : ℕ) (text rest : List ℕ) : Type 0 where
  pub passed : List (List ℕ)
  pub many : length passed ≡ count
  pub fields : fields_of field text ≡ passed ++ fields_of field rest
  pub whole : text ≡ each_ended field.separator passed ++ rest

-- The first field of the text has this length, and the others come after it.
pub record HasFirst (field : Field) (text : List ℕ) (n : ℕ) : Type 0 where
  pub others : List (List ℕ)
  pub fields : fields_of field text ≡ take n text ∷ others
  pub after : drop n text ≡ each_begun field.separator others
