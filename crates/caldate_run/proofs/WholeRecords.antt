-- The records of RFC 4180 are the lines of their whole input, because it ends with a line feed.
use Rattle.std.proofs.Common.{◌≡◌, ℕ, ◌+◌, ◌<◌, Bool, true, false, cond, eqb, All, List, [], ◌∷◌, ◌++◌, length, map, Option, Some, refl, sym, ap, ◌∙◌, subst, arith, append_assoc}
use Rattle.std.specs.Prelude.{not, ◌&&◌}
use Rattle.std.specs.List.{join_with_byte, onto_first}
use Rattle.caldate_lines.specs.Fields.{is_open, quoting_after, split_outside_quotes}
use Rattle.caldate_lines.specs.Lines.{all_lines, has_return, last_part, quotes_in, separator_of, split_input, unended}
use Rattle.caldate_lines.specs.Records.{IsRecord, records_text}
use Rattle.caldate_lines.specs.declared.field.Field.{Field}
use Rattle.caldate_lines.specs.declared.quoting.Quoting.{Quoting}
use Rattle.caldate_lines.specs.declared.quoting.Quoting.TheVariants.{Ready}
use Rattle.caldate_lines.proofs.Cuts.{record_some}
use Rattle.caldate_lines.proofs.RecordFields.{records_are}
use Rattle.caldate_run.specs.Inputs.{ends_in_quotes, whole_lines, with_return}
use Rattle.caldate_run.proofs.Replied.{same_return}

-- The last part has no byte, or its last one is no carriage return.
record EndsWell (parts : List (List ℕ)) : Type 0 where
  some : 0 < length parts
  no_return : has_return (last_part parts) ≡ false
  not_one_empty : parts ≡ [] ∷ [] → ⊥

after_empty : (parts : List (List ℕ)) → EndsWell parts → EndsWell ([] ∷ parts)
after_empty [] ends = absurd (omega (arith, ends.some))
after_empty (part ∷ parts) ends = record { some = omega arith; no_return = ends.no_return; not_one_empty = λ e. absurd (omega (arith, ap length e)) }

with_byte : (x : ℕ) (parts : List (List ℕ)) → EndsWell parts → EndsWell (onto_first x parts)
with_byte x [] ends = absurd (omega (arith, ends.some))
with_byte x ([] ∷ []) ends = absurd (ends.not_one_empty refl)
with_byte x ((y ∷ ys) ∷ []) ends = record {
  some = omega arith;
  no_return = same_return (x ∷ []) (y ∷ ys) (omega arith) ∙ ends.no_return;
  not_one_empty = λ e. absurd (omega (arith, ap (λ parts. length (last_part parts)) e));
}
with_byte x (part ∷ next ∷ parts) ends = record { some = omega arith; no_return = ends.no_return; not_one_empty = λ e. absurd (omega (arith, ap length e)) }

either : (b : Bool) (parts others : List (List ℕ)) → EndsWell parts → EndsWell others → EndsWell (cond b parts others)
either true parts others h f = h
either false parts others h f = f

ends_well : (c : ℕ) (s q : Quoting) (xs : List ℕ) → EndsWell (split_outside_quotes 10 c s q (xs ++ 10 ∷ []))
ends_well c s q [] =
    either (not (is_open q)) ([] ∷ [] ∷ []) ((10 ∷ []) ∷ [])
    (record { some = omega arith; no_return = refl; not_one_empty = λ e. absurd (omega (arith, ap length e)) })
    (record { some = omega arith; no_return = refl; not_one_empty = λ e. absurd (omega (arith, ap (λ parts. length (last_part parts)) e)) })
ends_well c s q (x ∷ xs) =
    either (eqb x 10 && not (is_open q)) _ _ (after_empty _ (ends_well c s s xs)) (with_byte x _ (ends_well c s (quoting_after c q x) xs))

pub ended_is_whole : (field : Option Field) (xs : List ℕ) → with_return field (xs ++ 10 ∷ []) ≡ xs ++ 10 ∷ []
ended_is_whole field xs =
    let input = xs ++ 10 ∷ [] in
    ap (λ b. cond (b && ends_in_quotes field input) (input ++ 13 ∷ []) input) (ends_well (separator_of field) (quotes_in field Ready) (quotes_in field Ready) xs).no_return

-- ---- the records
record Ended (text : List ℕ) : Type 0 where
  front : List ℕ
  is : text ≡ front ++ 10 ∷ []

text_ended : (c : ℕ) (fields : List (List ℕ)) (records : List (List (List ℕ))) → Ended (records_text c (fields ∷ records))
text_ended c fields [] = record { front = join_with_byte c fields; is = refl }
text_ended c fields (next ∷ records) =
    let rest = text_ended c next records in
    record {
      front = join_with_byte c fields ++ 10 ∷ rest.front;
      is = ap (λ text. join_with_byte c fields ++ 10 ∷ text) rest.is ∙ sym (append_assoc (join_with_byte c fields) (10 ∷ rest.front) (10 ∷ []));
    }

text_is_whole : (field : Option Field) (c : ℕ) (records : List (List (List ℕ))) → with_return field (records_text c records) ≡ records_text c records
text_is_whole field c [] = refl
text_is_whole field c (fields ∷ records) =
    let ended = text_ended c fields records in
    ap (with_return field) ended.is ∙ ended_is_whole field ended.front ∙ sym ended.is

pub records_are_whole : (field : Field) (records : List (List (List ℕ))) → field.csv ≡ true → eqb 34 field.separator ≡ false → eqb 10 field.separator ≡ false
    → All (IsRecord field.separator) records → whole_lines (Some field) (records_text field.separator records) ≡ map (join_with_byte field.separator) records
records_are_whole field records csv d s all = ap (all_lines (Some field)) (text_is_whole (Some field) field.separator records) ∙ records_are field records csv d s all
