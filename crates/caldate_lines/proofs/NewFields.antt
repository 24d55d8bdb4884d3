-- Words that become a field.
use Rattle.std.proofs.Common.{◌≡◌, ℕ, ◌-◌, Bool, true, false, cond, eqb, List, [], ◌∷◌, ◌++◌, length, refl, sym, ap, ◌∙◌}
use Rattle.std.specs.Prelude.{◌&&◌, ◌||◌, nat_le, slice_index}
use Rattle.std.proofs.lemmas.Bool.{or_parts}
use Rattle.std.proofs.lemmas.List.{append-nil}
use Rattle.caldate_lines.specs.Fields.{as_field, doubled, end_of_field, escaped, in_place_of, in_quotes, is_quote, is_quoted, is_special, needs_quotes}
use Rattle.caldate_lines.specs.declared.field.Field.{Field}

-- ---- a text that is not a record
pub plain_quotes : (field : Field) (part : List ℕ) → field.csv ≡ false → is_quoted field part ≡ false
plain_quotes field part e =
    ap (λ b. b && (nat_le 2 (length part) && (is_quote (slice_index part 0) && is_quote (slice_index part (length part - 1))))) e

pub plain_words : (field : Field) (part words : List ℕ) → field.csv ≡ false → in_place_of field part words ≡ words
plain_words field part words e =
    ap (λ b. cond b (in_quotes words) (as_field field words)) (plain_quotes field part e)
    ∙ ap (λ b. cond (b && needs_quotes field.separator words) (in_quotes words) words) e

-- ---- words that need no quotes
pub not_special : (separator x : ℕ) → is_special separator x ≡ false → (eqb x separator ≡ false) × (is_quote x ≡ false)
not_special separator x e =
    let h = or_parts (eqb x separator) (is_quote x || (eqb x 10 || eqb x 13)) e in
    (h.0, (or_parts (is_quote x) (eqb x 10 || eqb x 13) h.1).0)

not_doubled : (separator : ℕ) (words : List ℕ) → needs_quotes separator words ≡ false → doubled words ≡ words
not_doubled separator [] e = refl
not_doubled separator (x ∷ xs) e =
    let h = or_parts (is_special separator x) (needs_quotes separator xs) e in
    ap (λ b. cond b (34 ∷ 34 ∷ doubled xs) (x ∷ doubled xs)) (not_special separator x h.0).1 ∙ ap (λ l. x ∷ l) (not_doubled separator xs h.1)

-- ---- the end of a field
pub escaped_end : (field : Field) (quoted : Bool) (words : List ℕ) → (field.csv && needs_quotes field.separator words) ≡ true
    → escaped quoted words ++ cond quoted (34 ∷ []) [] ≡ end_of_field field quoted words
escaped_end field true words e = refl
escaped_end field false words e = append-nil (in_quotes words) ∙ sym (ap (λ b. cond b (in_quotes words) words) e)

pub plain_end : (field : Field) (quoted : Bool) (words : List ℕ) → (field.csv && needs_quotes field.separator words) ≡ false → (quoted ≡ true → field.csv ≡ true)
    → words ++ cond quoted (34 ∷ []) [] ≡ end_of_field field quoted words
plain_end field true words e csv =
    let none : needs_quotes field.separator words ≡ false = sym (ap (λ b. b && needs_quotes field.separator words) (csv refl)) ∙ e in
    ap (λ l. l ++ 34 ∷ []) (sym (not_doubled field.separator words none))
plain_end field false words e csv = append-nil words ∙ sym (ap (λ b. cond b (in_quotes words) words) e)
