-- The places between the marks that can start a text.
use Rattle.std.proofs.Common.{◌≡◌, inl, inr, ℕ, zero, suc, ◌+◌, ◌-◌, ◌<◌, ◌≤◌, Bool, true, false, ◌&&◌, List, drop, length, refl, sym, ap, subst, ◌∙◌, arith}
use Rattle.std.specs.Prelude.{◌||◌, ◌==◌, slice_index, if◌then◌else◌}
use Rattle.std.proofs.lemmas.Bool.{cases_lt, false≢true}
use Rattle.std.proofs.lemmas.Bool.Decides.{nat_tests}
use Rattle.std.proofs.lemmas.List.{get_or-drop}
use Rattle.std.proofs.Math.ListN.{get_or-eq_default}
use Rattle.caldate_answers.specs.Offsets.{is_digit}
use Rattle.caldate_answers.specs.Spellings.{is_sign}
use Rattle.caldate_answers.specs.Scans.{are_digits, is_mark, is_usual_start}

abbrev pub NoStart : List ℕ → ℕ → Type 0
NoStart line j = is_usual_start (drop j line) ≡ false

-- no start comes more than four bytes before the index, and none at a mark before it
pub record Passes (line : List ℕ) (from index : ℕ) : Type 0 where
  pub least : from ≤ index
  pub early : (j : ℕ) → from ≤ j → j + 4 < index → NoStart line j
  pub marks : (j : ℕ) → from ≤ j → j < index → is_mark (slice_index line j) ≡ true → NoStart line j

-- ---- a place without a mark
plain : (x : ℕ) (b c d : Bool) → is_mark x ≡ false → b ≡ false → (if is_digit x then b else if is_sign x then c else (x == 64 || x == 74) && d) ≡ false
plain x b c d off none = at (is_digit x) (is_sign x) (x == 64 || x == 74) off
  where
    at : (digit sign other : Bool) → (sign || other) ≡ false → (if digit then b else if sign then c else other && d) ≡ false
    at true sign other e = none
    at false false false e = refl
    at false true other e = absurd (false≢true (sym e))
    at false false true e = absurd (false≢true (sym e))

byte_there : (line : List ℕ) (j : ℕ) → slice_index (drop j line) 0 ≡ slice_index line j
byte_there line j = get_or-drop j line 0 0 ∙ ap (slice_index line) (omega arith)

unmarked : (line : List ℕ) (j : ℕ) → is_mark (slice_index line j) ≡ false → (slice_index (drop j line) 4 == 45 && are_digits (drop j line) 0) ≡ false → NoStart line j
unmarked line j off none = plain (slice_index (drop j line) 0) _ _ _ (ap is_mark (byte_there line j) ∙ off) none

not_hyphen : (x : ℕ) → is_mark x ≡ false → (x == 45) ≡ false
not_hyphen x e = grind (arith, nat_tests)

no_hyphen : (line : List ℕ) (j : ℕ) → is_mark (slice_index line j) ≡ false → is_mark (slice_index line (j + 4)) ≡ false → NoStart line j
no_hyphen line j off after = unmarked line j off (rw (not_hyphen (slice_index (drop j line) 4) (ap is_mark (get_or-drop j line 4 0) ∙ after)) refl)

-- a mark comes before the hyphen
no_digit : (x : ℕ) → is_mark x ≡ true → is_digit x ≡ false
no_digit x e = grind (arith, nat_tests)

last_false : (a : Bool) → (a && false) ≡ false
last_false true = refl
last_false false = refl

not_four : (p a b c d : Bool) (i : ℕ) → i < 4 → (i ≡ 0 → a ≡ false) → (i ≡ 1 → b ≡ false) → (i ≡ 2 → c ≡ false) → (i ≡ 3 → d ≡ false) → (p && (a && (b && (c && d)))) ≡ false
not_four p a b c d zero few f g h k = rw (f refl) (last_false p)
not_four p a b c d (suc zero) few f g h k = rw (g refl, last_false a) (last_false p)
not_four p a b c d (suc (suc zero)) few f g h k = rw (h refl, last_false b, last_false a) (last_false p)
not_four p a b c d (suc (suc (suc zero))) few f g h k = rw (k refl, last_false c, last_false b, last_false a) (last_false p)
not_four p a b c d (suc (suc (suc (suc i)))) few f g h k = absurd (omega (arith, few))

mark_inside : (line : List ℕ) (j i : ℕ) → is_mark (slice_index line j) ≡ false → i < 4 → is_mark (slice_index line (j + i)) ≡ true → NoStart line j
mark_inside line j i off few mark = unmarked line j off (not_four _ _ _ _ _ i few (at 0) (at 1) (at 2) (at 3))
  where
    at : (k : ℕ) → i ≡ k → is_digit (slice_index (drop j line) k) ≡ false
    at k same = ap is_digit (get_or-drop j line k 0) ∙ no_digit (slice_index line (j + k)) (ap (λ k. is_mark (slice_index line (j + k))) (sym same) ∙ mark)

-- ---- from mark to mark
abbrev NoMark : List ℕ → ℕ → ℕ → Type 0
NoMark line from index = (j : ℕ) → from ≤ j → j < index → is_mark (slice_index line j) ≡ false

by_mark : (line : List ℕ) (j : ℕ) {P : Type 0} → (is_mark (slice_index line j) ≡ true → P) → (is_mark (slice_index line j) ≡ false → P) → P
by_mark line j {P} with_mark without = at (is_mark (slice_index line j)) refl
  where
    at : (b : Bool) → is_mark (slice_index line j) ≡ b → P
    at true e = with_mark e
    at false e = without e

-- no start comes up to a mark, if none is four bytes before it
pub none_before : (line : List ℕ) (from index : ℕ) → Passes line from index → is_mark (slice_index line index) ≡ true → ((j : ℕ) → from ≤ j → j + 4 ≡ index → NoStart line j)
    → (j : ℕ) → from ≤ j → j < index → NoStart line j
none_before line from index p mark four j least less =
    by_mark line j (p.marks j least less) (λ off.
    elim (cases_lt (j + 4) index) as (λ _. NoStart line j) [
      | inl before ↦ p.early j least before
      | inr most ↦ elim (cases_lt index (j + 4)) as (λ _. NoStart line j) [
        | inl inside ↦ mark_inside line j (index - j) off (omega (arith, inside, less)) (ap (λ i. is_mark (slice_index line i)) (omega (arith, less)) ∙ mark)
        | inr past ↦ four j least (omega (arith, most, past))
      ]
    ])

-- nor up to the end of the line
pub none_to_end : (line : List ℕ) (from index : ℕ) → Passes line from index → length line ≤ index → (j : ℕ) → from ≤ j → j < index → NoStart line j
none_to_end line from index p end j least less =
    by_mark line j (p.marks j least less) (λ off.
    elim (cases_lt (j + 4) index) as (λ _. NoStart line j) [
      | inl before ↦ p.early j least before
      | inr most ↦ no_hyphen line j off (ap is_mark (get_or-eq_default line 0 (omega (arith, most, end))))
    ])

-- a mark with no start at it or four bytes before it is passed, up to the next mark
pub passes_next : (line : List ℕ) (from index next : ℕ) → Passes line from index → is_mark (slice_index line index) ≡ true → ((j : ℕ) → from ≤ j → j + 4 ≡ index → NoStart line j) → NoStart line index
    → index + 1 ≤ next → NoMark line (index + 1) next → Passes line from next
passes_next line from index next p mark four here least_next off = record {
  least = omega (arith, p.least, least_next);
  early = λ j least less. elim (cases_lt j index) as (λ _. NoStart line j) [
    | inl before ↦ elim (cases_lt index (j + 4)) as (λ _. NoStart line j) [
      | inl past ↦ by_mark line j (p.marks j least before) (λ unmarked_j. no_hyphen line j unmarked_j (off (j + 4) (omega (arith, past)) less))
      | inr most ↦ none_before line from index p mark four j least before
    ]
    | inr after ↦ elim (cases_lt index j) as (λ _. NoStart line j) [
      | inl past ↦ no_hyphen line j (off j (omega (arith, past)) (omega (arith, less))) (off (j + 4) (omega (arith, past)) less)
      | inr same ↦ let is : index ≡ j = omega (arith, after, same) in subst (NoStart line) is here
    ]
  ];
  marks = λ j least less e. elim (cases_lt j index) as (λ _. NoStart line j) [
    | inl before ↦ p.marks j least before e
    | inr after ↦ elim (cases_lt index j) as (λ _. NoStart line j) [
      | inl past ↦ absurd (false≢true (sym (off j (omega (arith, past)) less) ∙ e))
      | inr same ↦ let is : index ≡ j = omega (arith, after, same) in subst (NoStart line) is here
    ]
  ];
}
