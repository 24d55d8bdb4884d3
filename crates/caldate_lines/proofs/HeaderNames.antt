-- The header, and the names of its fields.
use Rattle.std.proofs.Common.{◌≡◌, ◌++◌, ◌∷◌, ◌∙◌, ◌+◌, ℕ, List, [], Option, Some, ap, arith, cond, false, length, length-append, sym, true}
use Rattle.std.proofs.lemmas.List.{append-nil}
use Rattle.caldate_lines.specs.Header.{HasLine, first_part, has_name, header_of, name_number}
use Rattle.caldate_lines.specs.Lines.{split_input, text_of}
use Rattle.caldate_lines.specs.RunStates.{FirstEnds, NoEnd}
use Rattle.caldate_lines.specs.declared.field.Field.{Field}
use Rattle.caldate_lines.specs.declared.quoting.Quoting.TheVariants.{Ready}
use Rattle.caldate_lines.proofs.Splits.{parts_some}

-- ---- the text of the first line
pub ended_header : (field : Field) (bytes line after : List ℕ) → FirstEnds (Some field) Ready bytes line after → header_of field bytes ≡ text_of line
ended_header field bytes line after first =
    ap (λ b. header_of field b) (sym (append-nil bytes)) ∙ ap (λ parts. text_of (first_part parts)) (first [])

pub unended_header : (field : Field) (bytes : List ℕ) → NoEnd (Some field) Ready bytes → header_of field bytes ≡ text_of bytes
unended_header field bytes none = ap (λ parts. text_of (first_part parts)) none

pub has_line : (field : Field) (bytes line after : List ℕ) → FirstEnds (Some field) Ready bytes line after → HasLine field bytes
has_line field bytes line after first =
    omega (arith, ap (λ b. length (split_input (Some field) b)) (sym (append-nil bytes)), ap length (first []), parts_some (Some field) Ready (after ++ []))

-- ---- the fields one after the other
pub longer : (bytes part others : List ℕ) (c : ℕ) → bytes ≡ part ++ c ∷ others → length bytes ≡ length part + length others + 1
longer bytes part others c e = omega (arith, ap length e, length-append part (c ∷ others))

pub name_found : (field : Field) (name part : List ℕ) (parts others : List (List ℕ)) (n : ℕ) (all : Option ℕ) → parts ≡ part ∷ others → has_name field name part ≡ true
    → name_number n field name parts ≡ all → Some n ≡ all
name_found field name part parts others n all cut test inv =
    sym (ap (name_number n field name) cut ∙ ap (λ b. cond b (Some n) (name_number (n + 1) field name others)) test) ∙ inv

pub name_passed : (field : Field) (name part : List ℕ) (parts others : List (List ℕ)) (n : ℕ) (all : Option ℕ) → parts ≡ part ∷ others → has_name field name part ≡ false
    → name_number n field name parts ≡ all → name_number (n + 1) field name others ≡ all
name_passed field name part parts others n all cut test inv =
    sym (ap (name_number n field name) cut ∙ ap (λ b. cond b (Some n) (name_number (n + 1) field name others)) test) ∙ inv
