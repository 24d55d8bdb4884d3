-- A line in pieces. What goes out are the same pieces, with each string replaced by its answer.
use Rattle.std.specs.Prelude.{◌≡◌, ℕ, ◌+◌, ◌||◌, nat_le, nat_lt, Bool, false, List, [], ◌∷◌, ◌++◌, length, drop, Option, Some, None, ok_or, option_map, Result, Ok, Err, MatchResult, is_ok, if◌then◌else◌}
use Rattle.std.specs.Option.{option_map_or}
use Rattle.std.specs.Result.{result_err}
use Rattle.caldate_lines.specs.Fields.{Cut, cut_of, end_of_field, field_text, in_place_of, is_quoted, missing_field, selected_text, with_numbers}
use Rattle.caldate_lines.specs.Reasons.{reason}
use Rattle.caldate_lines.specs.declared.on_invalid.OnInvalid.{OnInvalid}
use Rattle.caldate_lines.specs.declared.on_invalid.OnInvalid.TheVariants as invalid
use Rattle.caldate_lines.specs.declared.field.Field.{Field}
use Rattle.caldate_lines.specs.declared.missing_field.MissingField.{MissingField}
use Rattle.caldate_lines.specs.declared.no_answer.NoAnswer.{NoAnswer}
use Rattle.caldate_lines.specs.declared.no_answer.NoAnswer.TheVariants as why
use Rattle.caldate_lines.specs.declared.several_fields.RankedField.{RankedField}
use Rattle.caldate_answers.specs.Answers.{Answer, keeps}
use Rattle.caldate_answers.specs.Targets.{IsAnswerAt}
use Rattle.caldate_answers.specs.declared.request.Filter.{Filter}

-- Bytes that stay, and then the bytes that an answer replaces. The line may lack the string to
-- answer.
pub record Piece : Type 0 where
  pub kept : List ℕ
  pub source : List ℕ
  pub asked : Result (List ℕ) MissingField
  pub rank : ℕ

-- The pieces of a line, and the bytes after them.
pub record Pieces : Type 0 where
  pub texts : List Piece
  pub rest : List ℕ

-- ---- how a line is cut
-- A whole line is one text.
abbrev pub whole : List ℕ → Piece
whole text = record { kept = []; source = text; asked = Ok text; rank = 0 }

-- With a new field, the whole line stays, and nothing is replaced.
abbrev pub new_field : Field → List ℕ → Piece
new_field field text = record { kept = text ++ field.separator ∷ []; source = []; asked = ok_or (selected_text field text) (missing_field field text); rank = 0 }

-- A field that the line lacks.
abbrev pub missing : ℕ → MissingField → Piece
missing rank field = record { kept = []; source = []; asked = Err field; rank = rank }

-- A field, if the line has it after its first `at` bytes.
abbrev pub later_cut : ℕ → Option Cut → Option Cut
later_cut at None = None
later_cut at (Some cut) = if nat_le at (length cut.front) then Some cut else None

abbrev pub field_piece : Field → List ℕ → ℕ → ℕ → Option Cut → Piece
field_piece field text rank at None = missing rank (missing_field field text)
field_piece field text rank at (Some cut) = record { kept = drop at cut.front; source = cut.part; asked = Ok (field_text field.csv cut.part); rank = rank }

-- The number of bytes up to its end.
abbrev pub field_end : ℕ → Option Cut → ℕ
field_end at cut = option_map_or (λ cut. length cut.front + length cut.part) cut at

-- Fields, from the left, after the first `at` bytes.
abbrev pub fields_from : Field → List ℕ → ℕ → List RankedField → Pieces
fields_from field text at [] = record { texts = []; rest = drop at text }
fields_from field text at (next ∷ fields) =
    let own = with_numbers field next.numbers in
    let cut = later_cut at (cut_of own text) in
    let more = fields_from field text (field_end at cut) fields in
    record { texts = field_piece own text next.rank at cut ∷ more.texts; rest = more.rest }

-- A single field, or several.
abbrev pub own_field : Field → RankedField
own_field field = record { numbers = record { first = field.first; joined = field.joined }; rank = 0 }

abbrev pub fields_in : Field → List RankedField → List RankedField
fields_in field [] = own_field field ∷ []
fields_in field (next ∷ fields) = next ∷ fields

abbrev pub single : Piece → Pieces
single piece = record { texts = piece ∷ []; rest = [] }

abbrev pub pieces_in : Option Field → List RankedField → List ℕ → Pieces
pieces_in None several text = single (whole text)
pieces_in (Some field) several text = if field.appends then single (new_field field text) else fields_from field text 0 (fields_in field several)

abbrev pub pieces_of : Filter → List ℕ → Pieces
pieces_of filter text = pieces_in filter.field filter.several text

-- ---- what replaces a string
-- The words in place of a string, which in a CSV record are a field.
abbrev pub placed : Option Field → List ℕ → List ℕ → List ℕ
placed None source words = words
placed (Some field) source words = in_place_of field source words

-- The quotes around them. Before the words comes the first one.
abbrev pub is_quoted_in : Option Field → List ℕ → Bool
is_quoted_in None source = false
is_quoted_in (Some field) source = is_quoted field source

abbrev pub closed_words : Option Field → Bool → List ℕ → List ℕ
closed_words None quoted words = words
closed_words (Some field) quoted words = end_of_field field quoted words

-- A string that the line lacks has a place only as a new field.
abbrev pub has_place : Option Field → Bool → Bool
has_place None has_text = has_text
has_place (Some field) has_text = has_text || field.appends

-- What goes out in place of an answer, if anything does.
abbrev pub instead : OnInvalid → List ℕ → List ℕ → Option (List ℕ)
instead invalid.Keep source words = Some source
instead invalid.Answer source words = Some words
instead mode source words = None

-- What replaces a string. `keep` leaves it as it is.
abbrev pub replaced : Filter → List ℕ → Bool → Answer → Option (List ℕ)
replaced filter source has_text (Ok (Some words)) = Some (if keeps filter.request then source else placed filter.field source words)
replaced filter source has_text (Ok None) = None
replaced filter source has_text (Err any) =
    instead filter.on_invalid source (if has_place filter.field has_text then placed filter.field source (reason any) else source)

-- ---- the law
-- The answer to the string, by other fields of the line if they have TEXT.
abbrev pub IsAnswerToAsked : Filter → List ℕ → Result (List ℕ) MissingField → Answer → Type 0
IsAnswerToAsked filter text asked answer = MatchResult asked (λ asked. IsAnswerAt filter text asked answer) (λ missing. answer ≡ Err (why.NoField missing))

-- The first reason, in the order of the options.
abbrev pub earlier : ℕ → Option NoAnswer → Option (ℕ × NoAnswer) → Option (ℕ × NoAnswer)
earlier rank None later = later
earlier rank (Some any) None = Some (rank, any)
earlier rank (Some any) (Some later) = if nat_lt later.0 rank then Some later else Some (rank, any)

-- What goes out for a piece, and why its string has no answer.
abbrev pub IsPieceOut : Filter → List ℕ → Piece → Option NoAnswer → Option (List ℕ) → Type 0
IsPieceOut filter text piece any out =
    (answer : Answer) × IsAnswerToAsked filter text piece.asked answer × (any ≡ result_err answer)
    × (out ≡ option_map (λ words. piece.kept ++ words) (replaced filter piece.source (is_ok piece.asked) answer))

-- Nothing goes out for a line if nothing goes out for one of its pieces.
abbrev pub joined : Option (List ℕ) → Option (List ℕ) → Option (List ℕ)
joined (Some words) (Some more) = Some (words ++ more)
joined words more = None

-- What goes out for the pieces of a line, and the first reason.
abbrev pub IsOutOf : Filter → List ℕ → List Piece → List ℕ → Option (ℕ × NoAnswer) → Option (List ℕ) → Type 0
IsOutOf filter text [] rest first out = (first ≡ None) × (out ≡ Some rest)
IsOutOf filter text (piece ∷ pieces) rest first out =
    (own : Option NoAnswer) × (words : Option (List ℕ)) × (later : Option (ℕ × NoAnswer)) × (more : Option (List ℕ))
    × IsPieceOut filter text piece own words × IsOutOf filter text pieces rest later more
    × (first ≡ earlier piece.rank own later) × (out ≡ joined words more)

abbrev pub IsAnswered : Filter → List ℕ → Pieces → Option NoAnswer → Option (List ℕ) → Type 0
IsAnswered filter text pieces any out = (first : Option (ℕ × NoAnswer)) × IsOutOf filter text pieces.texts pieces.rest first out × (any ≡ option_map (λ one. one.1) first)
