-- The position at which a text stops matching a shape.
use Rattle.std.proofs.Common.{◌≡◌, ◌≢◌, ℕ, suc, ◌+◌, ◌<◌, ◌≤◌, List, [], ◌∷◌, ◌++◌, length, refl, sym, ◌∙◌, arith, inl, inr, ◌⊎◌}
use Rattle.std.proofs.lemmas.List.{length-append}
use Rattle.std.proofs.lemmas.Bool.Decides.{nat_tests}
use Rattle.std.proofs.lemmas.Bool.{cases_lt}
use Rattle.cal_text.specs.Shape.{Shape, End, ByteRange, Branch, Sign, unmatched_bytes}

-- ---- the count, case by case
abbrev pub IsIn : ℕ → ℕ → ℕ → Type 0
IsIn low above x = (low ≤ x) × (x ≤ low + above)

pub unmatched_bytes-in : (low above : ℕ) (f : Shape) (x : ℕ) (xs : List ℕ) → IsIn low above x → unmatched_bytes (ByteRange low above f) (x ∷ xs) ≡ unmatched_bytes f xs
unfolding unmatched_bytes
unmatched_bytes-in low above f x xs here = let least = here.0 in let most = here.1 in grind (arith, nat_tests)

pub unmatched_bytes-out : (low above : ℕ) (f : Shape) (x : ℕ) (xs : List ℕ) → ¬ IsIn low above x → unmatched_bytes (ByteRange low above f) (x ∷ xs) ≡ suc (length (x ∷ xs))
unfolding unmatched_bytes
unmatched_bytes-out low above f x xs out = grind (arith, nat_tests)

pub unmatched_bytes-end : (low above : ℕ) (f : Shape) → unmatched_bytes (ByteRange low above f) [] ≡ 1
unfolding unmatched_bytes
unmatched_bytes-end low above f = refl

pub unmatched_bytes-branch_in : (low above : ℕ) (f g : Shape) (x : ℕ) (xs : List ℕ) → IsIn low above x → unmatched_bytes (Branch low above f g) (x ∷ xs) ≡ unmatched_bytes f xs
unfolding unmatched_bytes
unmatched_bytes-branch_in low above f g x xs here = let least = here.0 in let most = here.1 in grind (arith, nat_tests)

pub unmatched_bytes-branch_out : (low above : ℕ) (f g : Shape) (x : ℕ) (xs : List ℕ) → ¬ IsIn low above x → unmatched_bytes (Branch low above f g) (x ∷ xs) ≡ unmatched_bytes g (x ∷ xs)
unfolding unmatched_bytes
unmatched_bytes-branch_out low above f g x xs out = grind (arith, nat_tests)

pub unmatched_bytes-branch_end : (low above : ℕ) (f g : Shape) → unmatched_bytes (Branch low above f g) [] ≡ unmatched_bytes g []
unfolding unmatched_bytes
unmatched_bytes-branch_end low above f g = refl

pub unmatched_bytes-done : unmatched_bytes End [] ≡ 0
unfolding unmatched_bytes
unmatched_bytes-done = refl

pub unmatched_bytes-more : (x : ℕ) (xs : List ℕ) → unmatched_bytes End (x ∷ xs) ≡ suc (length (x ∷ xs))
unfolding unmatched_bytes
unmatched_bytes-more x xs = refl

pub in_or_out : (low above x : ℕ) → IsIn low above x ⊎ ¬ IsIn low above x
in_or_out low above x =
    elim (cases_lt x low) as (λ _. IsIn low above x ⊎ ¬ IsIn low above x) [
      | inl under ↦ inr (λ h. absurd (omega arith))
      | inr least ↦ elim (cases_lt (low + above) x) as (λ _. IsIn low above x ⊎ ¬ IsIn low above x) [ inl over ↦ inr (λ h. absurd (omega arith)) | inr most ↦ inl (least, most) ]
    ]

pub unmatched_bytes-sign : (f : Shape) (x : ℕ) (xs : List ℕ) → 43 ≤ x → x ≤ 45 → x ≢ 44 → unmatched_bytes (Sign f) (x ∷ xs) ≡ unmatched_bytes f xs
unmatched_bytes-sign f x xs low high other =
    elim (in_or_out 43 0 x) as (λ _. unmatched_bytes (Sign f) (x ∷ xs) ≡ unmatched_bytes f xs) [
      | inl here ↦ unmatched_bytes-branch_in 43 0 f (ByteRange 45 0 f) x xs here
      | inr out ↦ unmatched_bytes-branch_out 43 0 f (ByteRange 45 0 f) x xs out ∙ unmatched_bytes-in 45 0 f x xs (elim (cases_lt x 45) as (λ _. 45 ≤ x) [ inl less ↦ absurd (out (low, omega (arith, less, low, other))) | inr least ↦ least ], high)
    ]

pub unmatched_bytes-no_sign : (f : Shape) (x : ℕ) (xs : List ℕ) → (x < 43) ⊎ ((45 < x) ⊎ (x ≡ 44)) → unmatched_bytes (Sign f) (x ∷ xs) ≡ suc (length (x ∷ xs))
unmatched_bytes-no_sign f x xs other =
    unmatched_bytes-branch_out 43 0 f (ByteRange 45 0 f) x xs (λ h. absurd (omega (arith, h.0, h.1, other))) ∙ unmatched_bytes-out 45 0 f x xs (λ h. absurd (omega (arith, h.0, h.1, other)))

pub unmatched_bytes-most : (f : Shape) (xs : List ℕ) → unmatched_bytes f xs ≤ suc (length xs)
unmatched_bytes-most End [] = omega (arith, unmatched_bytes-done)
unmatched_bytes-most End (x ∷ xs) = omega (arith, unmatched_bytes-more x xs)
unmatched_bytes-most (ByteRange low above f) [] = omega (arith, unmatched_bytes-end low above f)
unmatched_bytes-most (ByteRange low above f) (x ∷ xs) =
    elim (in_or_out low above x) as (λ _. unmatched_bytes (ByteRange low above f) (x ∷ xs) ≤ suc (length (x ∷ xs))) [
      | inl here ↦ omega (arith, unmatched_bytes-in low above f x xs here, unmatched_bytes-most f xs)
      | inr out ↦ omega (arith, unmatched_bytes-out low above f x xs out)
    ]
unmatched_bytes-most (Branch low above f g) [] = omega (arith, unmatched_bytes-branch_end low above f g, unmatched_bytes-most g [])
unmatched_bytes-most (Branch low above f g) (x ∷ xs) =
    elim (in_or_out low above x) as (λ _. unmatched_bytes (Branch low above f g) (x ∷ xs) ≤ suc (length (x ∷ xs))) [
      | inl here ↦ omega (arith, unmatched_bytes-branch_in low above f g x xs here, unmatched_bytes-most f xs)
      | inr out ↦ omega (arith, unmatched_bytes-branch_out low above f g x xs out, unmatched_bytes-most g (x ∷ xs))
    ]

-- ---- each shape has a text, and exactly the bytes that begin a shape are gone over
pub some_text : (f : Shape) → (more : List ℕ) × (unmatched_bytes f more ≡ 0)
some_text End = ([], unmatched_bytes-done)
some_text (ByteRange low above f) =
    let next = some_text f in (low ∷ next.0, unmatched_bytes-in low above f low next.0 (omega arith, omega arith) ∙ next.1)
some_text (Branch low above f g) =
    let next = some_text f in (low ∷ next.0, unmatched_bytes-branch_in low above f g low next.0 (omega arith, omega arith) ∙ next.1)

pub gone_over : (f : Shape) (bytes more rest : List ℕ) → unmatched_bytes f (bytes ++ more) ≡ 0 → unmatched_bytes f (bytes ++ rest) ≤ suc (length rest)
gone_over f [] more rest e = unmatched_bytes-most f rest
gone_over End (x ∷ xs) more rest e = absurd (omega (arith, e, unmatched_bytes-more x (xs ++ more)))
gone_over (ByteRange low above f) (x ∷ xs) more rest e =
    elim (in_or_out low above x) as (λ _. unmatched_bytes (ByteRange low above f) (x ∷ (xs ++ rest)) ≤ suc (length rest)) [
      | inl here ↦ omega (
        arith,
        unmatched_bytes-in low above f x (xs ++ rest) here,
        gone_over f xs more rest (sym (unmatched_bytes-in low above f x (xs ++ more) here) ∙ e),
      )
      | inr out ↦ absurd (omega (arith, e, unmatched_bytes-out low above f x (xs ++ more) out))
    ]
gone_over (Branch low above f g) (x ∷ xs) more rest e =
    elim (in_or_out low above x) as (λ _. unmatched_bytes (Branch low above f g) (x ∷ (xs ++ rest)) ≤ suc (length rest)) [
      | inl here ↦ omega (
        arith,
        unmatched_bytes-branch_in low above f g x (xs ++ rest) here,
        gone_over f xs more rest (sym (unmatched_bytes-branch_in low above f g x (xs ++ more) here) ∙ e),
      )
      | inr out ↦ omega (
        arith,
        unmatched_bytes-branch_out low above f g x (xs ++ rest) out,
        gone_over g (x ∷ xs) more rest (sym (unmatched_bytes-branch_out low above f g x (xs ++ more) out) ∙ e),
      )
    ]

abbrev Completes : Shape → List ℕ → Type 0
Completes f bytes = (more : List ℕ) × (unmatched_bytes f (bytes ++ more) ≡ 0)

pub completed : (f : Shape) (bytes rest : List ℕ) → unmatched_bytes f (bytes ++ rest) ≡ suc (length rest) → Completes f bytes
completed f [] rest e = some_text f
completed End (x ∷ xs) rest e = absurd (omega (arith, e, unmatched_bytes-more x (xs ++ rest), length-append xs rest))
completed (ByteRange low above f) (x ∷ xs) rest e =
    elim (in_or_out low above x) as (λ _. Completes (ByteRange low above f) (x ∷ xs)) [
      | inl here ↦
          let next = completed f xs rest (sym (unmatched_bytes-in low above f x (xs ++ rest) here) ∙ e) in
          (next.0, unmatched_bytes-in low above f x (xs ++ next.0) here ∙ next.1)
      | inr out ↦ absurd (omega (arith, e, unmatched_bytes-out low above f x (xs ++ rest) out, length-append xs rest))
    ]
completed (Branch low above f g) (x ∷ xs) rest e =
    elim (in_or_out low above x) as (λ _. Completes (Branch low above f g) (x ∷ xs)) [
      | inl here ↦
          let next = completed f xs rest (sym (unmatched_bytes-branch_in low above f g x (xs ++ rest) here) ∙ e) in
          (next.0, unmatched_bytes-branch_in low above f g x (xs ++ next.0) here ∙ next.1)
      | inr out ↦
          let next = completed g (x ∷ xs) rest (sym (unmatched_bytes-branch_out low above f g x (xs ++ rest) out) ∙ e) in
          (next.0, unmatched_bytes-branch_out low above f g x (xs ++ next.0) out ∙ next.1)
    ]

pub unmatched_bytes-none : (low above : ℕ) (f : Shape) (xs : List ℕ) → length xs ≡ 0 → unmatched_bytes (ByteRange low above f) xs ≡ suc (length xs)
unmatched_bytes-none low above f [] e = unmatched_bytes-end low above f
unmatched_bytes-none low above f (x ∷ xs) e = absurd (omega arith)

pub unmatched_bytes-done_empty : (xs : List ℕ) → length xs < 1 → unmatched_bytes End xs ≡ 0
unmatched_bytes-done_empty [] h = unmatched_bytes-done
unmatched_bytes-done_empty (x ∷ xs) h = absurd (omega arith)

pub unmatched_bytes-done_more : (xs : List ℕ) → 1 ≤ length xs → unmatched_bytes End xs ≡ suc (length xs)
unmatched_bytes-done_more [] h = absurd (omega arith)
unmatched_bytes-done_more (x ∷ xs) h = unmatched_bytes-more x xs

pub unmatched_bytes-branch_none : (low above : ℕ) (f g : Shape) (xs : List ℕ) → length xs ≡ 0 → unmatched_bytes (Branch low above f g) xs ≡ unmatched_bytes g xs
unmatched_bytes-branch_none low above f g [] e = unmatched_bytes-branch_end low above f g
unmatched_bytes-branch_none low above f g (x ∷ xs) e = absurd (omega arith)
