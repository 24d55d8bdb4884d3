-- The bytes that a text of a shape has, and those that it lacks.
use Rattle.std.proofs.Common.{◌≡◌, ◌⊎◌, inl, inr, ℕ, zero, suc, ◌+◌, Bool, true, false, ◌&&◌, List, [], ◌∷◌, ◌++◌, sym, ◌∙◌, arith}
use Rattle.std.specs.Prelude.{◌||◌, ◌==◌, nat_le, nat_lt, slice_index}
use Rattle.std.proofs.lemmas.Bool.{and_parts, false≢true}
use Rattle.std.proofs.lemmas.Bool.Decides.{nat_tests}
use Rattle.caldate_answers.specs.Offsets.{is_digit}
use Rattle.cal_text.specs.Shape.{Shape, End, ByteRange, Branch, unmatched_bytes}
use Rattle.cal_text.proofs.Stops.{IsIn, in_or_out, unmatched_bytes-in, unmatched_bytes-out, unmatched_bytes-end, unmatched_bytes-branch_in, unmatched_bytes-branch_out, unmatched_bytes-branch_end, unmatched_bytes-more}

-- ---- the first byte of a text
pub from-first : (low above : ℕ) (f : Shape) (x : ℕ) (xs : List ℕ) → unmatched_bytes (ByteRange low above f) (x ∷ xs) ≡ 0 → IsIn low above x × (unmatched_bytes f xs ≡ 0)
from-first low above f x xs e =
    elim (in_or_out low above x) as (λ _. IsIn low above x × (unmatched_bytes f xs ≡ 0)) [
      | inl here ↦ (here, sym (unmatched_bytes-in low above f x xs here) ∙ e)
      | inr out ↦ absurd (omega (arith, e, unmatched_bytes-out low above f x xs out))
    ]

pub branch-first : (low above : ℕ) (f g : Shape) (x : ℕ) (xs : List ℕ) → unmatched_bytes (Branch low above f g) (x ∷ xs) ≡ 0
    → (IsIn low above x × (unmatched_bytes f xs ≡ 0)) ⊎ (unmatched_bytes g (x ∷ xs) ≡ 0)
branch-first low above f g x xs e =
    elim (in_or_out low above x) as (λ _. (IsIn low above x × (unmatched_bytes f xs ≡ 0)) ⊎ (unmatched_bytes g (x ∷ xs) ≡ 0)) [
      | inl here ↦ inl (here, sym (unmatched_bytes-branch_in low above f g x xs here) ∙ e)
      | inr out ↦ inr (sym (unmatched_bytes-branch_out low above f g x xs out) ∙ e)
    ]

-- ---- a byte of each text of the shape
-- Each range of the byte at index i passes the test.
abbrev pub passes_at : (ℕ → ℕ → Bool) → ℕ → Shape → Bool
passes_at test i End = false
passes_at test zero (ByteRange low above f) = test low above
passes_at test (suc i) (ByteRange low above f) = passes_at test i f
passes_at test zero (Branch low above f g) = test low above && passes_at test zero g
passes_at test (suc i) (Branch low above f g) = passes_at test i f && passes_at test (suc i) g

pub byte_passes : (test : ℕ → ℕ → Bool) (P : ℕ → Type 0) → ((low above x : ℕ) → test low above ≡ true → IsIn low above x → P x)
    → (i : ℕ) (f : Shape) (bytes : List ℕ) → passes_at test i f ≡ true → unmatched_bytes f bytes ≡ 0 → P (slice_index bytes i)
byte_passes test P each i End bytes h e = absurd (false≢true h)
byte_passes test P each i (ByteRange low above f) [] h e = absurd (omega (arith, e, unmatched_bytes-end low above f))
byte_passes test P each zero (ByteRange low above f) (x ∷ xs) h e = each low above x h (from-first low above f x xs e).0
byte_passes test P each (suc i) (ByteRange low above f) (x ∷ xs) h e = byte_passes test P each i f xs h (from-first low above f x xs e).1
byte_passes test P each zero (Branch low above f g) [] h e = byte_passes test P each zero g [] (and_parts _ _ h).1 (sym (unmatched_bytes-branch_end low above f g) ∙ e)
byte_passes test P each (suc i) (Branch low above f g) [] h e = byte_passes test P each (suc i) g [] (and_parts _ _ h).1 (sym (unmatched_bytes-branch_end low above f g) ∙ e)
byte_passes test P each zero (Branch low above f g) (x ∷ xs) h e =
    let all = and_parts _ _ h in
    elim (branch-first low above f g x xs e) as (λ _. P x) [ inl here ↦ each low above x all.0 here.0 | inr other ↦ byte_passes test P each zero g (x ∷ xs) all.1 other ]
byte_passes test P each (suc i) (Branch low above f g) (x ∷ xs) h e =
    let all = and_parts _ _ h in
    elim (branch-first low above f g x xs e) as (λ _. P (slice_index xs i)) [
      | inl here ↦ byte_passes test P each i f xs all.0 here.1
      | inr other ↦ byte_passes test P each (suc i) g (x ∷ xs) all.1 other
    ]

abbrev pub digits : ℕ → ℕ → Bool
digits low above = nat_le 48 low && nat_le (low + above) 57

pub in-digits : (low above x : ℕ) → digits low above ≡ true → IsIn low above x → is_digit x ≡ true
in-digits low above x e h = let least = h.0 in let most = h.1 in grind (arith, nat_tests)

pub digit_at : (i : ℕ) (f : Shape) (bytes : List ℕ) → passes_at digits i f ≡ true → unmatched_bytes f bytes ≡ 0 → is_digit (slice_index bytes i) ≡ true
digit_at = byte_passes digits (λ x. is_digit x ≡ true) in-digits

abbrev pub only : ℕ → ℕ → ℕ → Bool
only b low above = low == b && above == 0

pub in-only : (b low above x : ℕ) → only b low above ≡ true → IsIn low above x → x ≡ b
in-only b low above x e h = let least = h.0 in let most = h.1 in grind (arith, nat_tests)

pub one_at : (b i : ℕ) (f : Shape) (bytes : List ℕ) → passes_at (only b) i f ≡ true → unmatched_bytes f bytes ≡ 0 → slice_index bytes i ≡ b
one_at b = byte_passes (only b) (λ x. x ≡ b) (in-only b)

abbrev pub is_out : ℕ → ℕ → ℕ → Bool
is_out low above b = nat_lt b low || nat_lt (low + above) b

out : (low above b : ℕ) → is_out low above b ≡ true → ¬ IsIn low above b
out low above b e here = let least = here.0 in let most = here.1 in grind (arith, nat_tests)

-- ---- a byte that no text of the shape has
abbrev pub lacks : ℕ → Shape → Bool
lacks b End = true
lacks b (ByteRange low above f) = is_out low above b && lacks b f
lacks b (Branch low above f g) = is_out low above b && (lacks b f && lacks b g)

pub lacks_byte : (b : ℕ) (f : Shape) (xs ys : List ℕ) → lacks b f ≡ true → unmatched_bytes f (xs ++ b ∷ ys) ≡ 0 → ⊥
lacks_byte b End [] ys h e = absurd (omega (arith, e, unmatched_bytes-more b ys))
lacks_byte b End (x ∷ xs) ys h e = absurd (omega (arith, e, unmatched_bytes-more x (xs ++ b ∷ ys)))
lacks_byte b (ByteRange low above f) [] ys h e = absurd (out low above b (and_parts _ _ h).0 (from-first low above f b ys e).0)
lacks_byte b (ByteRange low above f) (x ∷ xs) ys h e = lacks_byte b f xs ys (and_parts _ _ h).1 (from-first low above f x (xs ++ b ∷ ys) e).1
lacks_byte b (Branch low above f g) [] ys h e =
    let all = and_parts _ _ h in
    elim (branch-first low above f g b ys e) [ inl here ↦ out low above b all.0 here.0 | inr other ↦ lacks_byte b g [] ys (and_parts _ _ all.1).1 other ]
lacks_byte b (Branch low above f g) (x ∷ xs) ys h e =
    let all = and_parts _ _ (and_parts _ _ h).1 in
    elim (branch-first low above f g x (xs ++ b ∷ ys) e) [ inl here ↦ lacks_byte b f xs ys all.0 here.1 | inr other ↦ lacks_byte b g (x ∷ xs) ys all.1 other ]
