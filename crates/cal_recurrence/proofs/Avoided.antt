-- Splitting a text whose first bytes avoid the separator.
use Rattle.std.proofs.Common.{◌≡◌, ℕ, Bool, true, false, cond, eqb, List, [], ◌∷◌, ◌++◌, subst, inl, inr, refl, sym, ap, ◌∙◌}
use Rattle.std.specs.List.{All, onto_first}
use Rattle.std.proofs.lemmas.Bool.{cases_Bool, eq-eqb, false≢true, ne_eqb}
use Rattle.std.proofs.lemmas.List.Elements.{All-cons, All-head, All-nil, All-tail}
use Rattle.std.proofs.lemmas.List.Splits.{slice_split-cons_yes, slice_split-cons_no}
use Rattle.cal_recurrence.specs.Words.{parts_at}

-- the bytes avoid this byte
abbrev pub avoids : ℕ → List ℕ → Bool
avoids byte [] = true
avoids byte (x ∷ xs) = cond (eqb x byte) false (avoids byte xs)

pub parts : (a b : Bool) → cond a false b ≡ true → (a ≡ false) × (b ≡ true)
parts true b h = absurd (false≢true h)
parts false b h = (refl, h)

pub avoids-cons : (byte x : ℕ) (xs : List ℕ) → eqb x byte ≡ false → avoids byte xs ≡ true → avoids byte (x ∷ xs) ≡ true
avoids-cons byte x xs h k = ap (λ b. cond b false (avoids byte xs)) h ∙ k

pub avoids-append : (byte : ℕ) (xs ys : List ℕ) → avoids byte xs ≡ true → avoids byte ys ≡ true → avoids byte (xs ++ ys) ≡ true
avoids-append byte [] ys h k = k
avoids-append byte (x ∷ xs) ys h k =
    let both = parts _ _ h in
    avoids-cons byte x (xs ++ ys) both.0 (avoids-append byte xs ys both.1 k)

pub cut-here : (byte : ℕ) (xs ys : List ℕ) → avoids byte xs ≡ true → parts_at byte (xs ++ byte ∷ ys) ≡ xs ∷ parts_at byte ys
cut-here byte [] ys h = slice_split-cons_yes (λ b. eqb b byte) byte ys (eq-eqb byte byte refl)
cut-here byte (x ∷ xs) ys h =
    let both = parts _ _ h in
    slice_split-cons_no (λ b. eqb b byte) x (xs ++ byte ∷ ys) both.0 ∙ ap (onto_first x) (cut-here byte xs ys both.1)

pub cut-nowhere : (byte : ℕ) (xs : List ℕ) → avoids byte xs ≡ true → parts_at byte xs ≡ xs ∷ []
cut-nowhere byte [] h = refl
cut-nowhere byte (x ∷ xs) h =
    let both = parts _ _ h in
    slice_split-cons_no (λ b. eqb b byte) x xs both.0 ∙ ap (onto_first x) (cut-nowhere byte xs both.1)

-- ---- the same of each byte
pub from-all : (byte : ℕ) (xs : List ℕ) → All (λ x. ¬ (x ≡ byte)) xs → avoids byte xs ≡ true
from-all byte [] h = refl
from-all byte (x ∷ xs) h = avoids-cons byte x xs (ne_eqb x byte (All-head (λ y. ¬ (y ≡ byte)) x xs h)) (from-all byte xs (All-tail (λ y. ¬ (y ≡ byte)) x xs h))

other : (byte x : ℕ) → eqb x byte ≡ false → ¬ (x ≡ byte)
other byte x e same = absurd (false≢true (sym e ∙ eq-eqb x byte same))

pub all-from : (byte : ℕ) (xs : List ℕ) → avoids byte xs ≡ true → All (λ x. ¬ (x ≡ byte)) xs
all-from byte [] h = All-nil (λ y. ¬ (y ≡ byte))
all-from byte (x ∷ xs) h =
    let both = parts _ _ h in
    All-cons (λ y. ¬ (y ≡ byte)) x xs (other byte x both.0) (all-from byte xs both.1)

-- ---- the first part
pub parts_at-some : (byte : ℕ) (xs : List ℕ) → (first : List ℕ) × (others : List (List ℕ)) × (parts_at byte xs ≡ first ∷ others)
parts_at-some byte [] = ([], [], refl)
parts_at-some byte (x ∷ xs) =
    let rest = parts_at-some byte xs in
    elim (cases_Bool (eqb x byte)) [
      | inl here ↦ ([], parts_at byte xs, slice_split-cons_yes (λ b. eqb b byte) x xs here)
      | inr apart ↦ (x ∷ rest.0, rest.1, slice_split-cons_no (λ b. eqb b byte) x xs apart ∙ ap (onto_first x) rest.2)
    ]

-- ---- the bytes of a part
-- a byte that passes, and isn't the separator
abbrev pub Both : (ℕ → Type 0) → ℕ → ℕ → Type 0
Both P byte x = P x × ¬ (x ≡ byte)

onto : (Q : ℕ → Type 0) (x : ℕ) (ts : List (List ℕ)) → Q x → All (All Q) ts → All (All Q) (onto_first x ts)
onto Q x [] q h = All-cons (All Q) (x ∷ []) [] (All-cons Q x [] q (All-nil Q)) (All-nil (All Q))
onto Q x (t ∷ ts) q h = All-cons (All Q) (x ∷ t) ts (All-cons Q x t q (All-head (All Q) t ts h)) (All-tail (All Q) t ts h)

pub parts-bytes : (P : ℕ → Type 0) (byte : ℕ) (xs : List ℕ) → All P xs → All (All (Both P byte)) (parts_at byte xs)
parts-bytes P byte [] h = All-cons (All (Both P byte)) [] [] (All-nil (Both P byte)) (All-nil (All (Both P byte)))
parts-bytes P byte (x ∷ xs) h =
    let rest = parts-bytes P byte xs (All-tail P x xs h) in
    elim (cases_Bool (eqb x byte)) [
      | inl here ↦
          subst (All (All (Both P byte))) (sym (slice_split-cons_yes (λ b. eqb b byte) x xs here))
          (All-cons (All (Both P byte)) [] (parts_at byte xs) (All-nil (Both P byte)) rest)
      | inr apart ↦
          subst (All (All (Both P byte))) (sym (slice_split-cons_no (λ b. eqb b byte) x xs apart))
          (onto (Both P byte) x (parts_at byte xs) (All-head P x xs h, other byte x apart) rest)
    ]
