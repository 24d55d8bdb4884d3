-- The lines of an input, part by part.
use Rattle.std.proofs.Common.{◌≡◌, ℕ, ◌<◌, Bool, true, false, cond, eqb, List, [], ◌∷◌, ◌++◌, length, take, Option, Some, None, refl, sym, ap, ◌∙◌, arith}
use Rattle.std.specs.Prelude.{not, ◌&&◌}
use Rattle.std.specs.List.{onto_first}
use Rattle.caldate_lines.specs.Fields.{is_open, quoting_after, split_outside_quotes}
use Rattle.caldate_lines.specs.Header.{first_part}
use Rattle.caldate_lines.specs.Lines.{quotes_in, separator_of, split_from, split_input, without_empty_last}
use Rattle.caldate_lines.specs.RunStates.{FirstEnds, NoEnd, onto, quoting_in}
use Rattle.caldate_lines.specs.declared.quoting.Quoting.{Quoting}
use Rattle.caldate_lines.specs.declared.quoting.Quoting.TheVariants.{Off, Ready}
use Rattle.caldate_lines.specs.declared.field.Field.{Field}
use Rattle.caldate_lines.proofs.Cuts.{record_some}
use Rattle.caldate_lines.proofs.Quotes.{onto_one}

-- ---- one byte
abbrev ends_at : Option Field → Quoting → ℕ → Bool
ends_at field q x = eqb x 10 && not (is_open (quotes_in field q))

abbrev next_of : Option Field → Quoting → ℕ → Quoting
next_of field q x = quoting_after (separator_of field) q x

-- the quotes of a line that isn't a record stay as they are
same_after : (field : Option Field) (q : Quoting) (x : ℕ) → quoting_after (separator_of field) (quotes_in field q) x ≡ quotes_in field (next_of field q x)
same_after None q x = refl
same_after (Some field) q x = either field.csv
  where
    either : (csv : Bool) → quoting_after field.separator (cond csv q Off) x ≡ cond csv (quoting_after field.separator q x) Off
    either true = refl
    either false = refl

of_some : (field : Option Field) (q : Quoting) (x : ℕ) (xs : List ℕ)
    → split_from field q (x ∷ xs) ≡ cond (ends_at field q x) ([] ∷ split_input field xs) (onto_first x (split_from field (next_of field q x) xs))
of_some field q x xs =
    ap (λ (p : Quoting). cond (ends_at field q x) ([] ∷ split_input field xs) (onto_first x (split_outside_quotes 10 (separator_of field) (quotes_in field Ready) p xs))) (same_after field q x)

pub of_none : (field : Option Field) (q : Quoting) → split_from field q [] ≡ [] ∷ []
of_none field q = refl

-- ---- the first part
pub parts_some : (field : Option Field) (q : Quoting) (xs : List ℕ) → 0 < length (split_from field q xs)
parts_some field q xs = record_some 10 (separator_of field) (quotes_in field Ready) (quotes_in field q) xs

pub onto_parts : (xs : List ℕ) (parts : List (List ℕ)) → 0 < length parts → (rest : List ℕ) × (more : List (List ℕ)) × (onto xs parts ≡ (xs ++ rest) ∷ more)
onto_parts xs [] h = absurd (omega (arith, h))
onto_parts xs (part ∷ parts) h = (part, parts, onto_one xs part parts)

pub onto_onto : (xs ys : List ℕ) (parts : List (List ℕ)) → onto xs (onto ys parts) ≡ onto (xs ++ ys) parts
onto_onto [] ys parts = refl
onto_onto (x ∷ xs) ys parts = ap (onto_first x) (onto_onto xs ys parts)

-- a first part with a byte
first_some : (x : ℕ) (parts others : List (List ℕ)) (line : List ℕ) → onto_first x parts ≡ line ∷ others → 0 < length line
first_some x [] others line e = omega (arith, ap (λ ps. length (first_part ps)) e)
first_some x (part ∷ parts) others line e = omega (arith, ap (λ ps. length (first_part ps)) e)

-- the bytes are one part, so their first byte ends none
no_end_at : (b : Bool) (x : ℕ) (xs : List ℕ) (parts others : List (List ℕ)) → cond b ([] ∷ parts) others ≡ (x ∷ xs) ∷ [] → b ≡ false
no_end_at true x xs parts others e = absurd (omega (arith, ap (λ ps. length (first_part ps)) e))
no_end_at false x xs parts others e = refl

without_first : (x : ℕ) (xs : List ℕ) (parts : List (List ℕ)) → 0 < length parts → onto_first x parts ≡ (x ∷ xs) ∷ [] → parts ≡ xs ∷ []
without_first x xs [] h e = absurd (omega (arith, h))
without_first x xs (part ∷ parts) h e = (cc)

-- no line ends within the first bytes, nor after them
pub passes_front : (field : Option Field) (q : Quoting) (xs ys : List ℕ) → NoEnd field q (xs ++ ys)
    → ((more : List ℕ) → split_from field q (xs ++ more) ≡ onto xs (split_from field (quoting_in field q xs) more)) × NoEnd field (quoting_in field q xs) ys
passes_front field q [] ys n = (λ more. refl, n)
passes_front field q (x ∷ xs) ys n =
    let next = next_of field q x in
    let cut = sym (of_some field q x (xs ++ ys)) ∙ n in
    let stays = no_end_at (ends_at field q x) x (xs ++ ys) (split_input field (xs ++ ys)) (onto_first x (split_from field next (xs ++ ys))) cut in
    let one : (zs : List ℕ) → split_from field q (x ∷ zs) ≡ onto_first x (split_from field next zs) = λ zs.
    of_some field q x zs ∙ ap (λ b. cond b ([] ∷ split_input field zs) (onto_first x (split_from field next zs))) stays in
    let rest = passes_front field next xs ys (without_first x (xs ++ ys) (split_from field next (xs ++ ys)) (parts_some field next (xs ++ ys)) (sym (one (xs ++ ys)) ∙ n)) in
    (λ more. one (xs ++ more) ∙ ap (onto_first x) (rest.0 more), rest.1)

-- a line that doesn't end at its first byte has one
pub line_some : (field : Option Field) (q : Quoting) (bytes line after : List ℕ) → 0 < length bytes → NoEnd field q (take 1 bytes) → FirstEnds field q bytes line after
    → 0 < length line
line_some field q [] line after some n first = absurd (omega (arith, some))
line_some field q (x ∷ xs) line after some n first =
    first_some x _ _ line (sym ((passes_front field q (x ∷ []) [] n).0 (xs ++ [])) ∙ first [])

-- ---- a last part that is empty
pub part_counts : (part : List ℕ) (parts : List (List ℕ)) → 0 < length parts
    → without_empty_last (part ∷ parts) ≡ part ∷ without_empty_last parts
part_counts [] [] h = absurd (omega arith)
part_counts (b ∷ bs) [] h = absurd (omega arith)
part_counts [] (p ∷ parts) h = refl
part_counts (b ∷ bs) (p ∷ parts) h = refl
