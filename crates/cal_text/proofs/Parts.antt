-- Pairs, branches and whole texts.
use Rattle.std.proofs.Common.{◌≡◌, ℕ, ◌⊎◌, inl, inr, List, [], ◌∷◌, ◌++◌, refl, sym, ap, subst, ◌∙◌, arith}
use Rattle.std.proofs.lemmas.List.{append-nil}
use Rattle.cal_text.specs.Shape.{GoesPast, Shape, End, ByteRange, Branch, unmatched_bytes}
use Rattle.cal_text.proofs.Stops.{IsIn, in_or_out, unmatched_bytes-in, unmatched_bytes-out, unmatched_bytes-end, unmatched_bytes-branch_in, unmatched_bytes-branch_out, unmatched_bytes-branch_end, unmatched_bytes-more}

pub same_pair : (V W : Type 0) (v w : V × W) → v.0 ≡ w.0 → v.1 ≡ w.1 → v ≡ w
same_pair V W v w a b =
    ap (λ x. let p : V × W = (x, v.1) in p) a ∙ ap (λ y. let p : V × W = (w.0, y) in p) b

-- ---- a branch
abbrev pub BeginsOutside : ℕ → ℕ → List ℕ → Type 0
BeginsOutside low above bytes = (x : ℕ) (xs : List ℕ) → bytes ≡ x ∷ xs → ¬ IsIn low above x

pub unmatched_bytes-outside : (low above : ℕ) (f g : Shape) (bytes : List ℕ) → BeginsOutside low above bytes → unmatched_bytes (Branch low above f g) bytes ≡ unmatched_bytes g bytes
unmatched_bytes-outside low above f g [] out = unmatched_bytes-branch_end low above f g
unmatched_bytes-outside low above f g (x ∷ xs) out = unmatched_bytes-branch_out low above f g x xs (out x xs refl)

pub taken : (low above : ℕ) (f g : Shape) (bytes : List ℕ) → unmatched_bytes (ByteRange low above f) bytes ≡ 0 → unmatched_bytes (Branch low above f g) bytes ≡ 0
taken low above f g [] e = absurd (omega (arith, e, unmatched_bytes-end low above f))
taken low above f g (x ∷ xs) e =
    elim (in_or_out low above x) as (λ _. unmatched_bytes (Branch low above f g) (x ∷ xs) ≡ 0) [
      | inl here ↦ unmatched_bytes-branch_in low above f g x xs here ∙ sym (unmatched_bytes-in low above f x xs here) ∙ e
      | inr out ↦ absurd (omega (arith, e, unmatched_bytes-out low above f x xs out))
    ]

pub chosen : (low above : ℕ) (f g : Shape) (bytes : List ℕ) → unmatched_bytes (Branch low above f g) bytes ≡ 0 → (unmatched_bytes (ByteRange low above f) bytes ≡ 0) ⊎ (unmatched_bytes g bytes ≡ 0)
chosen low above f g [] e = inr (sym (unmatched_bytes-branch_end low above f g) ∙ e)
chosen low above f g (x ∷ xs) e =
    elim (in_or_out low above x) as (λ _. (unmatched_bytes (ByteRange low above f) (x ∷ xs) ≡ 0) ⊎ (unmatched_bytes g (x ∷ xs) ≡ 0)) [
      | inl here ↦ inl (unmatched_bytes-in low above f x xs here ∙ sym (unmatched_bytes-branch_in low above f g x xs here) ∙ e)
      | inr out ↦ inr (sym (unmatched_bytes-branch_out low above f g x xs out) ∙ e)
    ]

pub clashing : (low above : ℕ) (f : Shape) (bytes : List ℕ) → BeginsOutside low above bytes → unmatched_bytes (ByteRange low above f) bytes ≡ 0 → ⊥
clashing low above f [] out e = absurd (omega (arith, e, unmatched_bytes-end low above f))
clashing low above f (x ∷ xs) out e = absurd (omega (arith, e, unmatched_bytes-out low above f x xs (out x xs refl)))

-- ---- a whole text
pub done_then : (bytes : List ℕ) → unmatched_bytes End bytes ≡ 0 → bytes ≡ []
done_then [] e = refl
done_then (x ∷ xs) e = absurd (omega (arith, e, unmatched_bytes-more x xs))

pub at_end : (bytes ds rest : List ℕ) → bytes ≡ ds ++ rest → rest ≡ [] → bytes ≡ ds
at_end bytes ds rest e none = e ∙ ap (λ more. ds ++ more) none ∙ append-nil ds

-- what a scanner went past, before the end
pub put_whole : {V : Type 0} (Has : List ℕ → V → Type 0) (v : V) (old new : List ℕ) → GoesPast (λ bytes. Has bytes v) old new → new ≡ [] → Has old v
put_whole Has v old new h end = subst (λ all. Has all v) (sym (at_end old h.front new h.bytes_are end)) h.is
