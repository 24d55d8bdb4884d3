-- The shape of a moment without its offset: with a Z, its texts have the form of a moment.
use Rattle.std.proofs.Common.{◌≡◌, ◌↔◌, inl, inr, ℕ, zero, suc, ◌≤◌, List, [], ◌∷◌, ◌++◌, length, length-append, Option, None, Some, refl, sym, ap, subst, ◌∙◌, arith}
use Rattle.cal_text.specs.Shape.{Shape, Branch, ByteRange, Digits, End, Fraction, ScansWhole, Separator, ToSeconds, TwoNumbers, UpTo, moment, signed_offset, time_offset, unmatched_bytes}
use Rattle.cal_time.specs.declared.error.ComponentRange.{ComponentRange}
use Rattle.cal_text.specs.Parsing.{HasError}
use Rattle.cal_text.specs.Position.{HasSome}
use Rattle.cal_text.specs.Rfc3339Form.{HasMomentForm, IsMomentError}
use Rattle.cal_text.proofs.MomentShapes.{moment_shapes}
use Rattle.cal_text.proofs.Parts.{done_then}
use Rattle.cal_text.proofs.Positions.{IsShapeOf, Stopped, stopped}
use Rattle.cal_text.proofs.Stops.{IsIn, in_or_out, unmatched_bytes-branch_end, unmatched_bytes-branch_in, unmatched_bytes-branch_out, unmatched_bytes-done, unmatched_bytes-in}
use Rattle.caldate_answers.specs.Readings.{WithoutOffset}
use Rattle.caldate_answers.proofs.ShapeBytes.{branch-first, from-first, lacks_byte}

-- The bytes have the shape g exactly if they have the shape f with a Z after them and are at most n.
record Closes (n : ℕ) (f g : Shape) : Type 0 where
  into : (bytes : List ℕ) → length bytes ≤ n → unmatched_bytes f (bytes ++ 90 ∷ []) ≡ 0 → unmatched_bytes g bytes ≡ 0
  back : (bytes : List ℕ) → unmatched_bytes g bytes ≡ 0 → (length bytes ≤ n) × (unmatched_bytes f (bytes ++ 90 ∷ []) ≡ 0)

from : (low above n : ℕ) (f g : Shape) → ¬ IsIn low above 90 → Closes n f g → Closes (suc n) (ByteRange low above f) (ByteRange low above g)
unfolding unmatched_bytes
from low above n f g not_z c = record { into = into; back = back }
  where
    into : (bytes : List ℕ) → length bytes ≤ suc n → unmatched_bytes (ByteRange low above f) (bytes ++ 90 ∷ []) ≡ 0 → unmatched_bytes (ByteRange low above g) bytes ≡ 0
    into [] short e = absurd (not_z (from-first low above f 90 [] e).0)
    into (x ∷ xs) short e = let h = from-first low above f x (xs ++ 90 ∷ []) e in unmatched_bytes-in low above g x xs h.0 ∙ c.into xs (omega (arith, short)) h.1

    back : (bytes : List ℕ) → unmatched_bytes (ByteRange low above g) bytes ≡ 0 → (length bytes ≤ suc n) × (unmatched_bytes (ByteRange low above f) (bytes ++ 90 ∷ []) ≡ 0)
    back [] e = absurd (omega (arith, e))
    back (x ∷ xs) e =
        let h = from-first low above g x xs e in
        let next = c.back xs h.1 in
        (omega (arith, next.0), unmatched_bytes-in low above f x (xs ++ 90 ∷ []) h.0 ∙ next.1)

branch : (low above n : ℕ) (f f' g g' : Shape) → ¬ IsIn low above 90 → Closes n f g → Closes (suc n) f' g' → Closes (suc n) (Branch low above f f') (Branch low above g g')
branch low above n f f' g g' not_z c d = record { into = into; back = back }
  where
    into : (bytes : List ℕ) → length bytes ≤ suc n → unmatched_bytes (Branch low above f f') (bytes ++ 90 ∷ []) ≡ 0 → unmatched_bytes (Branch low above g g') bytes ≡ 0
    into [] short e = unmatched_bytes-branch_end low above g g' ∙ d.into [] short (sym (unmatched_bytes-branch_out low above f f' 90 [] not_z) ∙ e)
    into (x ∷ xs) short e = elim (in_or_out low above x) as (λ _. unmatched_bytes (Branch low above g g') (x ∷ xs) ≡ 0) [
      | inl here ↦ unmatched_bytes-branch_in low above g g' x xs here ∙ c.into xs (omega (arith, short)) (sym (unmatched_bytes-branch_in low above f f' x (xs ++ 90 ∷ []) here) ∙ e)
      | inr out ↦ unmatched_bytes-branch_out low above g g' x xs out ∙ d.into (x ∷ xs) short (sym (unmatched_bytes-branch_out low above f f' x (xs ++ 90 ∷ []) out) ∙ e)
    ]

    back : (bytes : List ℕ) → unmatched_bytes (Branch low above g g') bytes ≡ 0 → (length bytes ≤ suc n) × (unmatched_bytes (Branch low above f f') (bytes ++ 90 ∷ []) ≡ 0)
    back [] e =
        let other = d.back [] (sym (unmatched_bytes-branch_end low above g g') ∙ e) in
        (omega arith, unmatched_bytes-branch_out low above f f' 90 [] not_z ∙ other.1)
    back (x ∷ xs) e = elim (in_or_out low above x) as (λ _. (length (x ∷ xs) ≤ suc n) × (unmatched_bytes (Branch low above f f') (x ∷ (xs ++ 90 ∷ [])) ≡ 0)) [
      | inl here ↦
          let next = c.back xs (sym (unmatched_bytes-branch_in low above g g' x xs here) ∙ e) in
          (omega (arith, next.0), unmatched_bytes-branch_in low above f f' x (xs ++ 90 ∷ []) here ∙ next.1)
      | inr out ↦
          let other = d.back (x ∷ xs) (sym (unmatched_bytes-branch_out low above g g' x xs out) ∙ e) in
          (other.0, unmatched_bytes-branch_out low above f f' x (xs ++ 90 ∷ []) out ∙ other.1)
    ]

-- ---- the parts
two_digits : (n : ℕ) (f g : Shape) → Closes n f g → Closes (suc (suc n)) (Digits 2 f) (Digits 2 g)
two_digits n f g c = from 48 9 _ _ _ (λ z. omega (arith, z.1)) (from 48 9 n f g (λ z. omega (arith, z.1)) c)

two_numbers : (b n : ℕ) (f g : Shape) → ¬ IsIn b 0 90 → Closes n f g → Closes (suc (suc (suc (suc (suc (suc n)))))) (TwoNumbers b f) (TwoNumbers b g)
two_numbers b n f g not_z c = from b 0 _ _ _ not_z (two_digits _ _ _ (from b 0 _ _ _ not_z (two_digits n f g c)))

separator : (n : ℕ) (f g : Shape) → Closes n f g → Closes (suc n) (Separator f) (Separator g)
separator n f g c =
    branch 84 0 n f _ g _ (λ z. omega (arith, z.1)) c (branch 116 0 n f _ g _ (λ z. omega (arith, z.0)) c (from 32 0 n f g (λ z. omega (arith, z.1)) c))

-- an offset that is a Z
utc : (n : ℕ) → Closes n time_offset End
utc n = record { into = λ bytes short e. nothing bytes e; back = λ bytes e. only bytes (done_then bytes e) }
  where
    nothing : (bytes : List ℕ) → unmatched_bytes time_offset (bytes ++ 90 ∷ []) ≡ 0 → unmatched_bytes End bytes ≡ 0
    nothing [] e = unmatched_bytes-done
    nothing (x ∷ xs) e = elim (branch-first 90 0 End _ x (xs ++ 90 ∷ []) e) [
      | inl upper ↦ absurd (lacks_byte 90 End xs [] refl upper.1)
      | inr other ↦ elim (branch-first 122 0 End _ x (xs ++ 90 ∷ []) other) [
        | inl lower ↦ absurd (lacks_byte 90 End xs [] refl lower.1)
        | inr signed ↦ absurd (lacks_byte 90 signed_offset (x ∷ xs) [] refl signed)
      ]
    ]

    only : (bytes : List ℕ) → bytes ≡ [] → (length bytes ≤ n) × (unmatched_bytes time_offset (bytes ++ 90 ∷ []) ≡ 0)
    only [] e = (omega arith, unmatched_bytes-branch_in 90 0 End _ 90 [] (omega arith, omega arith) ∙ unmatched_bytes-done)
    only (x ∷ xs) e = absurd (omega (arith, ap length e))

up_to : (k m : ℕ) → k ≤ m → Closes k (UpTo m time_offset) (UpTo k End)
up_to zero zero h = utc 0
up_to zero (suc m) h = record {
  into = λ bytes short e. none bytes short;
  back = λ bytes e. let is = done_then bytes e in (
    omega (arith, ap length is),
    subst (λ bs. unmatched_bytes (UpTo (suc m) time_offset) (bs ++ 90 ∷ []) ≡ 0) (sym is)
        (unmatched_bytes-branch_out 48 9 (UpTo m time_offset) time_offset 90 [] (λ z. omega (arith, z.1)) ∙ ((utc 0).back [] unmatched_bytes-done).1),
  );
}
  where
    none : (bytes : List ℕ) → length bytes ≤ 0 → unmatched_bytes End bytes ≡ 0
    none [] short = unmatched_bytes-done
    none (x ∷ xs) short = absurd (omega (arith, short))
up_to (suc k) zero h = absurd (omega (arith, h))
up_to (suc k) (suc m) h = branch 48 9 k _ _ _ _ (λ z. omega (arith, z.1)) (up_to k m (omega (arith, h))) (utc (suc k))

fraction : Closes 10 (Fraction 30 time_offset) (Fraction 8 End)
fraction = branch 46 0 9 _ _ _ _ (λ z. omega (arith, z.1)) (from 48 9 8 _ _ (λ z. omega (arith, z.1)) (up_to 8 30 (omega arith))) (utc 10)

local : Closes 29 (moment 30) (ToSeconds (Fraction 8 End))
local =
    two_digits _ _ _ (two_digits _ _ _ (two_numbers 45 _ _ _ (λ z. omega (arith, z.1)) (separator _ _ _ (two_digits _ _ _ (two_numbers 58 _ _ _ (λ z. omega (arith, z.1)) fraction)))))

-- ---- the whole
pub local_shape : IsShapeOf (WithoutOffset HasMomentForm) (ToSeconds (Fraction 8 End))
local_shape = record {
  each = λ bytes (m, h). local.into bytes h.0 (moment_shapes.each 30 (bytes ++ 90 ∷ []) (omega (arith, h.0, length-append bytes (90 ∷ []))) (m, h.1));
  only = λ bytes e.
      let closed = local.back bytes e in
      let found = moment_shapes.only 30 (bytes ++ 90 ∷ []) closed.1 in
      (found.0, (closed.0, found.1));
  one = λ bytes v w a b. moment_shapes.one (bytes ++ 90 ∷ []) v w a.1 b.1;
}

-- a scanner stops in a text that doesn't have the form
pub local_stop : {W : Type 0} (text rest : List ℕ) (r : Option W) → ScansWhole (ToSeconds (Fraction 8 End)) text rest r → ¬ HasSome (WithoutOffset HasMomentForm) text
    → Stopped (WithoutOffset HasMomentForm) text rest
local_stop text rest None scans none = stopped (WithoutOffset HasMomentForm) (ToSeconds (Fraction 8 End)) local_shape text rest scans
local_stop text rest (Some w) scans none = absurd (none (local_shape.only text scans))

-- what the parser says of a text with a Z
pub without_offset : (text full : List ℕ) (why : ComponentRange) (P : Type 0) → full ≡ text ++ 90 ∷ [] → length text ≤ 29 → P ↔ HasError HasMomentForm IsMomentError full why
    → P ↔ HasError (WithoutOffset HasMomentForm) IsMomentError text why
without_offset text full why P e short is = (
  λ p. let h = is.0 p in (h.0, (short, subst (λ t. HasMomentForm t h.0) e h.1), h.2),
  λ h. is.1 (h.0, subst (λ t. HasMomentForm t h.0) (sym e) h.1.1, h.2),
)

pub none_without : {V : Type 0} (Has : List ℕ → V → Type 0) (text full : List ℕ) → full ≡ text ++ 90 ∷ [] → ((v : V) → ¬ Has full v) → ¬ HasSome (WithoutOffset Has) text
none_without Has text full e none h = none h.0 (subst (λ t. Has t h.0) (sym e) h.1.1)
