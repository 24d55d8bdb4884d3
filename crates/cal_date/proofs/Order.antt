-- Components that rise from each day to the next keep the order of the days.
use Rattle.std.proofs.Common.{◌≡◌, ℕ, zero, suc, ◌+◌, ◌-◌, ◌<◌, ◌↔◌, ◌⊎◌, inl, inr, ◌∙◌, subst, arith, ℤ, ◌<ℤ◌, List, [], ◌∷◌}
use Rattle.std.proofs.lemmas.Bool.{cases_lt}
use Rattle.std.proofs.lemmas.Int.{ints}
use Rattle.cal_date.specs.Order.{IsBefore}

IsBefore-trans : (xs ys zs : List ℤ) → IsBefore xs ys → IsBefore ys zs → IsBefore xs zs
IsBefore-trans [] ys zs h f = absurd h
IsBefore-trans (x ∷ xs) [] zs h f = absurd h
IsBefore-trans (x ∷ xs) (y ∷ ys) [] h f = absurd f
IsBefore-trans (x ∷ xs) (y ∷ ys) (z ∷ zs) h f =
    elim h as (λ _. (x <ℤ z) ⊎ ((x ≡ z) × IsBefore xs zs)) [
      | inl less ↦ elim f as (λ _. (x <ℤ z) ⊎ ((x ≡ z) × IsBefore xs zs)) [ inl below ↦ inl (omega (arith, ints)) | inr same ↦ inl (omega (arith, ints, same.0)) ]
      | inr same ↦ elim f as (λ _. (x <ℤ z) ⊎ ((x ≡ z) × IsBefore xs zs)) [
        | inl below ↦ inl (omega (arith, ints, same.0))
        | inr like ↦ inr (same.0 ∙ like.0, IsBefore-trans xs ys zs same.1 like.1)
      ]
    ]

IsBefore-irreflexive : (xs : List ℤ) → ¬ IsBefore xs xs
IsBefore-irreflexive [] h = h
IsBefore-irreflexive (x ∷ xs) h = elim h as (λ _. ⊥) [ inl less ↦ omega (arith, ints) | inr same ↦ IsBefore-irreflexive xs same.1 ]

-- The components rise from each day to the next.
pub record Rises (has : ℕ → List ℤ) : Type 0 where
  pub step : (n : ℕ) → IsBefore (has n) (has (suc n))

rises_by : (has : ℕ → List ℤ) → Rises has → (m k : ℕ) → IsBefore (has m) (has (m + suc k))
rises_by has h m zero = let e : suc m ≡ m + 1 = omega arith in subst (λ n. IsBefore (has m) (has n)) e (h.step m)
rises_by has h m (suc k) =
    let e : suc (m + suc k) ≡ m + suc (suc k) = omega arith in
    subst (λ n. IsBefore (has m) (has n)) e (IsBefore-trans _ _ _ (rises_by has h m k) (h.step (m + suc k)))

rises : (has : ℕ → List ℤ) → Rises has → (m n : ℕ) → m < n → IsBefore (has m) (has n)
rises has h m n less =
    let e : m + suc (n - m - 1) ≡ n = omega arith in
    subst (λ k. IsBefore (has m) (has k)) e (rises_by has h m (n - m - 1))

-- Days have the order of their components.
pub in_order : (has : ℕ → List ℤ) → Rises has → (m n : ℕ) → (m < n) ↔ IsBefore (has m) (has n)
in_order has h m n = (
  rises has h m n,
  λ before.
      elim (cases_lt m n) [
        | inl less ↦ less
        | inr most ↦ elim (cases_lt n m) [
          | inl more ↦ absurd (IsBefore-irreflexive (has m) (IsBefore-trans _ _ _ before (rises has h n m more)))
          | inr least ↦ absurd (IsBefore-irreflexive (has m) (let e : n ≡ m = omega arith in subst (λ k. IsBefore (has m) (has k)) e before))
        ]
      ],
)
