-- Names that are written one by one.
use Rattle.std.proofs.Common.{◌≡◌, ℕ, zero, suc, ◌+◌, ◌<◌, ◌≤◌, List, [], ◌∷◌, ◌++◌, get_or, length, take, sym, ap, subst, ◌∙◌, arith, inl, inr}
use Rattle.std.proofs.Math.ListN.{set}
use Rattle.std.proofs.Math.Seq.{take-suc, take-suc-set}
use Rattle.std.proofs.lemmas.Bool.{cases_lt}
use Rattle.std.proofs.lemmas.List.{length-map, map-set}
use Rattle.std.specs.Borrow.{Bor}
use Rattle.cal_names.specs.Apart.{texts, text_at}
use Rattle.cal_names.specs.NameShape.{longest}

pub length-texts : (xs : List (Bor (List ℕ))) → length (texts xs) ≡ length xs
length-texts xs = length-map xs (λ x. x.now)

-- one more name is written
pub same_more : (xs ys : List (Bor (List ℕ))) (i : ℕ) (y : Bor (List ℕ)) → i < length xs → i < length ys → y.now ≡ text_at xs i
    → take i (texts xs) ≡ take i (texts ys) → take (i + 1) (texts xs) ≡ take (i + 1) (texts (set ys i y))
same_more xs ys i y lt room is same =
    let next : i + 1 ≡ suc i = omega arith in
    let here : i < length (texts xs) = omega (arith, lt, length-texts xs) in
    let there : i < length (texts ys) = omega (arith, room, length-texts ys) in
    ap (λ n. take n (texts xs)) next ∙ take-suc (texts xs) i [] here ∙ ap (λ front. front ++ text_at xs i ∷ []) same ∙ ap (λ x. take i (texts ys) ++ x ∷ []) (sym is)
    ∙ sym (take-suc-set (texts ys) i y.now there) ∙ ap (λ n. take n (set (texts ys) i y.now)) (sym next) ∙ ap (take (i + 1)) (sym (map-set (λ x. x.now) ys i y))

-- one more name is like those before it
pub one_more : (P : ℕ → Type 0) (i : ℕ) → ((k : ℕ) → k < i → P k) → P i → (k : ℕ) → k < i + 1 → P k
one_more P i before here k lt = elim (cases_lt k i) as (λ _. P k) [ inl less ↦ before k less | inr least ↦ subst P (omega (arith, lt, least)) here ]

-- no name is longer than the longest one
pub within-longest : (names : List (List ℕ)) (k : ℕ) → length (get_or names k []) ≤ longest names
within-longest [] k = omega arith
within-longest (x ∷ names) zero = omega arith
within-longest (x ∷ names) (suc k) = omega (arith, within-longest names k)
