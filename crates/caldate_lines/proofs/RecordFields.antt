-- A record is split into its fields.
use Rattle.std.proofs.Common.{◌≡◌, ℕ, ◌<◌, Bool, true, false, cond, eqb, eq-eqb, List, get_or, Some, [], ◌∷◌, ◌++◌, length, refl, sym, ap, ◌∙◌, subst, arith, append_assoc}
use Rattle.std.specs.Prelude.{not, ◌&&◌, All, map}
use Rattle.std.specs.List.{join_with_byte, onto_first}
use Rattle.std.proofs.lemmas.List.Elements.{All-cons, All-head, All-nil, All-tail}
use Rattle.caldate_lines.specs.Fields.{as_field, in_place_of, in_quotes, is_quote, is_open, is_quoted, is_special, needs_quotes, quoting_after, split_fields, split_outside_quotes, doubled as doubled_quotes}
use Rattle.caldate_lines.specs.declared.field.Field.{Field}
use Rattle.caldate_lines.specs.Records.{IsEscaped, IsField, IsRecord, IsRecordField, records_text}
use Rattle.caldate_lines.specs.RunStates.{onto}
use Rattle.caldate_lines.specs.declared.quoting.Quoting.TheVariants.{Off, Ready, Open, Bare}
use Rattle.caldate_lines.specs.declared.quoting.Quoting.{Quoting}
use Rattle.caldate_lines.specs.Lines.{all_lines, without_empty_last}
use Rattle.std.proofs.lemmas.Bool.{false≢true, ne_eqb, or_parts}
use Rattle.caldate_lines.proofs.Cuts.{record_some}
use Rattle.caldate_lines.proofs.Splits.{onto_onto, part_counts}
use Rattle.caldate_lines.specs.Records.IsEscaped.{none, byte, doubled}
use Rattle.caldate_lines.specs.Records.IsField.{bare, escaped}
use Rattle.caldate_lines.proofs.NewFields.{not_special}
use Rattle.caldate_lines.proofs.Quotes.{Passes, is_off, bare_passes, ends_after, ends_last, goes, onto_more}

within : (b : Bool) → (b && not true) ≡ false
within true = refl
within false = refl

-- a byte within quotes
one : (e c : ℕ) (s : Quoting) (x : ℕ) (quotes : Bool) (xs : List ℕ) → is_quote x ≡ quotes
    → split_outside_quotes e c s Open (x ∷ xs) ≡ onto_first x (split_outside_quotes e c s (cond quotes Ready Open) xs)
one e c s x quotes xs is = goes e c s Open x xs (within (eqb x e)) ∙ ap (λ b. onto_first x (split_outside_quotes e c s (cond b Ready Open) xs)) is

-- a quote that opens quotes
opens : (e c : ℕ) (s : Quoting) (xs : List ℕ) → eqb 34 e ≡ false → split_outside_quotes e c s Ready (34 ∷ xs) ≡ onto_first 34 (split_outside_quotes e c s Open xs)
opens e c s xs d = goes e c s Ready 34 xs (ap (λ t. t && not false) d)

in_escaped : (e c : ℕ) (s : Quoting) (xs more : List ℕ) → eqb 34 e ≡ false → IsEscaped xs → split_outside_quotes e c s Open (xs ++ more) ≡ onto xs (split_outside_quotes e c s Open more)
in_escaped e c s _ more d none = refl
in_escaped e c s _ more d (byte x xs h rest) = one e c s x false (xs ++ more) h ∙ ap (onto_first x) (in_escaped e c s xs more d rest)
in_escaped e c s _ more d (doubled xs rest) =
    one e c s 34 true (34 ∷ (xs ++ more)) refl ∙ ap (onto_first 34) (opens e c s (xs ++ more) d ∙ ap (onto_first 34) (in_escaped e c s xs more d rest))

no_quote : (xs : List ℕ) → All (λ x. is_quote x ≡ false) xs → is_quote (get_or xs 0 0) ≡ false
no_quote [] h = refl
no_quote (x ∷ xs) h = All-head (λ x. is_quote x ≡ false) x xs h

passes : (e c : ℕ) (s : Quoting) (xs : List ℕ) → eqb 34 e ≡ false → IsField c xs → (is_quote (get_or xs 0 0) ≡ false → All (λ x. eqb x e ≡ false) xs) → Passes e c s Ready xs
passes e c s _ d (bare xs h k) n = bare_passes e c s xs (no_quote xs h) (n (no_quote xs h)) k
passes e c s _ d (escaped xs h) n = record {
  state = Ready;
  closed = refl;
  on = λ h. h;
  parts = λ more. opens e c s ((xs ++ 34 ∷ []) ++ more) d ∙ ap (λ l. onto_first 34 (split_outside_quotes e c s Open l)) (append_assoc xs (34 ∷ []) more)
      ∙ ap (onto_first 34) (in_escaped e c s xs (34 ∷ more) d h ∙ ap (onto xs) (one e c s 34 true more refl) ∙ sym (onto_more xs 34 (split_outside_quotes e c s Ready more)));
}

unseparated : (c : ℕ) (xs : List ℕ) → IsField c xs → is_quote (get_or xs 0 0) ≡ false → All (λ x. eqb x c ≡ false) xs
unseparated c _ (bare xs h k) e = k
unseparated c _ (escaped xs h) e = absurd (false≢true (sym e))

field_passes : (c : ℕ) (xs : List ℕ) → eqb 34 c ≡ false → IsField c xs → Passes c c Ready Ready xs
field_passes c xs d h = passes c c Ready xs d h (unseparated c xs h)

pub fields_are : (c : ℕ) (fields : List (List ℕ)) → (eqb 34 c) ≡ false → 0 < length fields → All (IsField c) fields
    → split_fields c Ready (join_with_byte c fields) ≡ fields
fields_are c [] d some all = absurd (omega (arith, some))
fields_are c (field ∷ []) d some all = ends_last c c Ready Ready field (field_passes c field d (All-head (IsField c) field [] all))
fields_are c (field ∷ next ∷ fields) d some all =
    ends_after c c Ready Ready field (join_with_byte c (next ∷ fields)) (field_passes c field d (All-head (IsField c) field (next ∷ fields) all))
    ∙ ap (λ fs. field ∷ fs) (fields_are c (next ∷ fields) d (omega arith) (All-tail (IsField c) field (next ∷ fields) all))

-- ---- the records of an input
at_separator : (c : ℕ) (q : Quoting) → eqb 34 c ≡ false → is_open q ≡ false → is_off q ≡ false → quoting_after c q c ≡ Ready
at_separator c Ready d k on = ap (λ b. cond b Open (cond (eqb c c) Ready Bare)) (ne_eqb c 34 (λ e. false≢true (sym d ∙ eq-eqb 34 c (sym e)))) ∙ ap (λ b. cond b Ready Bare) (eq-eqb c c refl)
at_separator c Bare d k on = ap (λ b. cond b Ready Bare) (eq-eqb c c refl)
at_separator c Off d k on = absurd (false≢true (sym on))
at_separator c Open d k on = absurd (false≢true (sym k))

then_passes : (e c : ℕ) (s : Quoting) (xs ys : List ℕ) → eqb 34 c ≡ false → eqb c e ≡ false → Passes e c s Ready xs → Passes e c s Ready ys → Passes e c s Ready (xs ++ c ∷ ys)
then_passes e c s xs ys d t h k = record {
  state = k.state;
  closed = k.closed;
  on = k.on;
  parts = λ more. ap (split_outside_quotes e c s Ready) (append_assoc xs (c ∷ ys) more) ∙ h.parts (c ∷ (ys ++ more))
      ∙ ap (onto xs) (goes e c s h.state c (ys ++ more) (ap (λ b. b && not (is_open h.state)) t)
      ∙ ap (λ q. onto_first c (split_outside_quotes e c s q (ys ++ more))) (at_separator c h.state d h.closed (h.on refl)) ∙ ap (onto_first c) (k.parts more))
      ∙ onto_onto xs (c ∷ ys) (split_outside_quotes e c s k.state more);
}

record_passes : (c : ℕ) (fields : List (List ℕ)) → eqb 34 c ≡ false → eqb c 10 ≡ false → 0 < length fields → All (IsRecordField c) fields
    → Passes 10 c Ready Ready (join_with_byte c fields)
record_passes c [] d s some all = absurd (omega (arith, some))
record_passes c (field ∷ []) d s some all = let h = All-head (IsRecordField c) field [] all in passes 10 c Ready field refl h.0 h.1
record_passes c (field ∷ next ∷ fields) d s some all =
    let h = All-head (IsRecordField c) field (next ∷ fields) all in
    then_passes 10 c Ready field (join_with_byte c (next ∷ fields)) d s (passes 10 c Ready field refl h.0 h.1)
    (record_passes c (next ∷ fields) d s (omega arith) (All-tail (IsRecordField c) field (next ∷ fields) all))

parts_are : (c : ℕ) (records : List (List (List ℕ))) → eqb 34 c ≡ false → eqb c 10 ≡ false → All (IsRecord c) records
    → without_empty_last (split_outside_quotes 10 c Ready Ready (records_text c records)) ≡ map (join_with_byte c) records
parts_are c [] d s all = refl
parts_are c (fields ∷ records) d s all =
    let h = All-head (IsRecord c) fields records all in
    let rest = split_outside_quotes 10 c Ready Ready (records_text c records) in
    ap without_empty_last (ends_after 10 c Ready Ready (join_with_byte c fields) (records_text c records) (record_passes c fields d s h.0 h.1))
    ∙ part_counts (join_with_byte c fields) rest (record_some 10 c Ready Ready (records_text c records))
    ∙ ap (λ lines. join_with_byte c fields ∷ lines) (parts_are c records d s (All-tail (IsRecord c) fields records all))

pub records_are : (field : Field) (records : List (List (List ℕ))) → field.csv ≡ true → eqb 34 field.separator ≡ false → eqb 10 field.separator ≡ false
    → All (IsRecord field.separator) records → all_lines (Some field) (records_text field.separator records) ≡ map (join_with_byte field.separator) records
records_are field records csv d s all =
    let c = field.separator in
    let text = records_text c records in
    ap (λ (b : Bool). without_empty_last (split_outside_quotes 10 c (cond b Ready Off) (cond b Ready Off) text)) csv
    ∙ parts_are c records d (ne_eqb c 10 (λ e. false≢true (sym s ∙ eq-eqb 10 c (sym e)))) all

-- ---- words that become a field
escaped_one : (b : Bool) (x : ℕ) (xs : List ℕ) → is_quote x ≡ b → IsEscaped xs → IsEscaped (cond b (34 ∷ 34 ∷ xs) (x ∷ xs))
escaped_one true x xs e h = doubled xs h
escaped_one false x xs e h = byte x xs e h

doubled_is : (words : List ℕ) → IsEscaped (doubled_quotes words)
doubled_is [] = none
doubled_is (x ∷ xs) = escaped_one (is_quote x) x (doubled_quotes xs) refl (doubled_is xs)

bare_is : (c : ℕ) (words : List ℕ) → needs_quotes c words ≡ false → All (λ x. is_quote x ≡ false) words × All (λ x. eqb x c ≡ false) words
bare_is c [] e = (All-nil _, All-nil _)
bare_is c (x ∷ xs) e =
    let h = or_parts (is_special c x) (needs_quotes c xs) e in
    let one = not_special c x h.0 in
    let more = bare_is c xs h.1 in
    (All-cons (λ x. is_quote x ≡ false) x xs one.1 more.0, All-cons (λ x. eqb x c ≡ false) x xs one.0 more.1)

in_quotes_is : (c : ℕ) (words : List ℕ) → IsField c (in_quotes words)
in_quotes_is c words = escaped (doubled_quotes words) (doubled_is words)

chosen_is : (c : ℕ) (b : Bool) (words : List ℕ) → needs_quotes c words ≡ b → IsField c (cond b (in_quotes words) words)
chosen_is c true words e = in_quotes_is c words
chosen_is c false words e =
    let h = bare_is c words e in
    bare words h.0 h.1

either_is : (c : ℕ) (b : Bool) (quoted other : List ℕ) → IsField c quoted → IsField c other → IsField c (cond b quoted other)
either_is c true quoted other h k = h
either_is c false quoted other h k = k

pub words_are : (field : Field) (part words : List ℕ) → field.csv ≡ true → IsField field.separator (in_place_of field part words)
words_are field part words csv =
    let c = field.separator in
    either_is c (is_quoted field part) (in_quotes words) (as_field field words) (in_quotes_is c words)
    (subst (λ b. IsField c (cond (b && needs_quotes c words) (in_quotes words) words)) (sym csv) (chosen_is c (needs_quotes c words) words refl))
