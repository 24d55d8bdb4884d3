-- The first number that passes a test of its quotient and a test of its remainder.
use Rattle.std.proofs.Common.{◌≡◌, ℕ, ◌+◌, ◌*◌, ◌/◌, ◌%◌, ◌<◌, ◌≤◌, sym, ap, ◌∙◌, arith, Bool, true, false, inl, inr, Option}
use Rattle.std.specs.Prelude.{◌&&◌}
use Rattle.std.proofs.lemmas.Bool.{and_parts, cases_lt, false_from_ne_true, false≢true}
use Rattle.std.proofs.lemmas.Nat.{div-add-mod'}
use Rattle.std.proofs.Math.Nat.{mul-le-mul_left}
use Rattle.cal_recurrence.specs.TimeSearch.{NoneIn, IsFirst, IsNext}
use Rattle.cal_recurrence.proofs.FirstNumbers.{extended}

-- A number passes if its quotient by the size passes one test and its remainder the other.
pub record Splits (test outer inner : ℕ → Bool) (size : ℕ) : Type 0 where
  pub some : 0 < size
  pub at : (n : ℕ) → test n ≡ (outer (n / size) && inner (n % size))

-- The quotient and the remainder of a number.
pub record HasParts (size a b n : ℕ) : Type 0 where
  pub quotient : n / size ≡ a
  pub remainder : n % size ≡ b

pub parts-of : (size a b n : ℕ) → 0 < size → b < size → n ≡ a * size + b → HasParts size a b n
parts-of size a b n some h e =
    let first : size * (n / size) + n % size ≡ n = omega (arith, div-add-mod' n size) in
    let quotient : n / size ≡ a = elim (cases_lt (n / size) a) as (λ _. n / size ≡ a) [
      | inl less ↦ let more : n / size + 1 ≤ a = omega arith in absurd (omega (arith, mul-le-mul_left size more))
      | inr most ↦ elim (cases_lt a (n / size)) as (λ _. n / size ≡ a) [
        | inl less ↦ let more : a + 1 ≤ n / size = omega arith in absurd (omega (arith, mul-le-mul_left size more))
        | inr least ↦ omega arith
      ]
    ] in
    record { quotient = quotient; remainder = omega (arith, ap (λ q. size * q) quotient) }

-- A number from a multiple of the size on has no lower quotient.
quotient-from : (size a n : ℕ) → 0 < size → a * size ≤ n → a ≤ n / size
quotient-from size a n some h = elim (cases_lt (n / size) a) as (λ _. a ≤ n / size) [
  | inl less ↦ let more : n / size + 1 ≤ a = omega arith in absurd (omega (arith, div-add-mod' n size, mul-le-mul_left size more))
  | inr most ↦ most
]

-- A number below a multiple of the size has a lower quotient.
quotient-below : (size a n : ℕ) → 0 < size → n < a * size → n / size < a
quotient-below size a n some h = elim (cases_lt (n / size) a) as (λ _. n / size < a) [
  | inl less ↦ less
  | inr most ↦ absurd (omega (arith, div-add-mod' n size, mul-le-mul_left size most))
]

-- The remainder of a number with the quotient a.
remainder-is : (size a n : ℕ) → n / size ≡ a → n ≡ a * size + n % size
remainder-is size a n e = omega (arith, div-add-mod' n size, ap (λ q. size * q) e)

splits-off : (test outer inner : ℕ → Bool) (size n : ℕ) → Splits test outer inner size → ¬ ((outer (n / size) ≡ true) × (inner (n % size) ≡ true)) → test n ≡ false
splits-off test outer inner size n h off = false_from_ne_true _ (λ on. off (and_parts _ _ (sym (h.at n) ∙ on)))

splits-on : (test outer inner : ℕ → Bool) (size a b n : ℕ) → Splits test outer inner size → HasParts size a b n → outer a ≡ true → inner b ≡ true → test n ≡ true
splits-on test outer inner size a b n h parts out inn =
    rw (h.at n, parts.quotient, parts.remainder, out) inn

-- No number from q on with the quotient a passes.
abbrev pub NoneBeside : (ℕ → Bool) → ℕ → ℕ → ℕ → Type 0
NoneBeside test size q a = (k : ℕ) → q ≤ k → k / size ≡ a → test k ≡ false

pub beside-inner : (test outer inner : ℕ → Bool) (size a b q : ℕ) → Splits test outer inner size → q ≡ a * size + b → NoneIn inner b size → NoneBeside test size q a
beside-inner test outer inner size a b q h e none = λ k low same.
    let some = h.some in
    let rem = remainder-is size a k same in
    splits-off test outer inner size k h (λ on. false≢true (sym (none (k % size) (omega arith) (omega arith)) ∙ on.1))

pub beside-outer : (test outer inner : ℕ → Bool) (size a q : ℕ) → Splits test outer inner size → outer a ≡ false → NoneBeside test size q a
beside-outer test outer inner size a q h off = λ k low same.
    splits-off test outer inner size k h (λ on. false≢true (sym off ∙ ap outer (sym same) ∙ on.0))

-- If no number from q on with the quotient a passes, the first one has a higher quotient.
pub go-on : (test : ℕ → Bool) (size a q p e : ℕ) (r : Option ℕ) → 0 < size → NoneBeside test size q a → a * size ≤ q → q ≤ p → p ≡ (a + 1) * size
    → IsNext test p e r → IsNext test q e r
go-on test size a q p e r some beside low least is next =
    extended test q p e r least (λ k from less. beside k from (omega (arith, quotient-from size a k some (omega arith), quotient-below size (a + 1) k some (omega arith)))) next

-- The first number from a multiple of the size on has the first quotient and the first remainder.
pub first-later : (test outer inner : ℕ → Bool) (size a q limit o s e x : ℕ) → Splits test outer inner size → q ≡ a * size → e ≡ limit * size → x ≡ o * size + s
    → IsFirst outer a limit o → IsFirst inner 0 size s → IsFirst test q e x
first-later test outer inner size a q limit o s e x h at end is out found =
    let some = h.some in
    let under = found.below in
    let more : o + 1 ≤ limit = omega (arith, out.below) in
    record {
      not_before = omega (arith, mul-le-mul_left size out.not_before);
      below = omega (arith, mul-le-mul_left size more);
      passes = splits-on test outer inner size o s x h (parts-of size o s x some under is) out.passes found.passes;
      none_before = λ k low high. elim (cases_lt (k / size) o) as (λ _. test k ≡ false) [
        | inl less ↦ splits-off test outer inner size k h (λ on. false≢true (sym (out.none_before (k / size) (quotient-from size a k some (omega arith)) less) ∙ on.0))
        | inr most ↦
            let same : k / size ≡ o = omega (arith, quotient-below size (o + 1) k some (omega arith)) in
            let rem = remainder-is size o k same in
            splits-off test outer inner size k h (λ on. false≢true (sym (found.none_before (k % size) (omega arith) (omega arith)) ∙ on.1))
      ];
    }
