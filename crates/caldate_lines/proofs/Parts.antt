-- Cutting bytes at the first position of a byte.
use Rattle.std.proofs.Common.{◌≡◌, ℕ, ◌+◌, ◌<◌, ◌≤◌, Bool, false, eqb, get_or, List, ◌∷◌, ◌++◌, length, take, drop, Some, None, inl, inr, ap, ◌∙◌, arith, subst}
use Rattle.std.specs.List.{position, position_or_len}
use Rattle.std.specs.Prelude.{All}
use Rattle.std.proofs.lemmas.List.Sums.{fails_before_first, passes_at_first, position_or_len_is, split_at_first}
use Rattle.std.proofs.lemmas.Grind.{common_steps}
use Rattle.std.proofs.lemmas.Bool.{cases_lt, eq-eqb, eqb-true, ne_eqb}
use Rattle.std.proofs.lemmas.Option.{cond_some}
use Rattle.std.proofs.lemmas.Bool.Decides.{nat_tests}
use Rattle.caldate_lines.specs.RunStates.{HasNoFeed}

-- without such a position, each element fails
none_passes : (p : ℕ → Bool) (xs : List ℕ) → position p xs ≡ None → length xs ≤ position_or_len p xs
none_passes p xs e = grind (arith, nat_tests)

all_fail : (p : ℕ → Bool) (xs : List ℕ) → position p xs ≡ None → All (λ x. p x ≡ false) xs
all_fail p xs e =
    let all = none_passes p xs e in
    λ k d h. fails_before_first p xs k d (omega arith)

-- the first such byte, or none
pub found_at : (c : ℕ) (xs : List ℕ) (i : ℕ) → i < length xs → ((k : ℕ) → k < i → get_or xs k 0 ≡ c → ⊥) → get_or xs i 0 ≡ c → Some i ≡ position (λ b. eqb b c) xs
found_at c xs i within before at =
    let first = position_or_len_is (λ b. eqb b c) xs i 0 (omega (arith, within)) (λ k h. ne_eqb (get_or xs k 0) c (before k h)) (λ _. eq-eqb (get_or xs i 0) c at) in
    grind (arith, nat_tests)

pub none_at : (c : ℕ) (xs : List ℕ) (i : ℕ) → length xs ≤ i → ((k : ℕ) → k < i → get_or xs k 0 ≡ c → ⊥) → None ≡ position (λ b. eqb b c) xs
none_at c xs i past before =
    let last = position_or_len_is (λ b. eqb b c) xs (length xs) 0 (omega arith) (λ k h. ne_eqb (get_or xs k 0) c (before k (omega (arith, h, past)))) (λ h. absurd (omega (arith, h))) in
    grind (arith, nat_tests)

pub one_more : (c : ℕ) (xs : List ℕ) (i : ℕ) → ((k : ℕ) → k < i → get_or xs k 0 ≡ c → ⊥) → (get_or xs i 0 ≡ c → ⊥) → (k : ℕ) → k < i + 1 → get_or xs k 0 ≡ c → ⊥
one_more c xs i before at k h e =
    elim (cases_lt k i) as (λ _. ⊥) [
      | inl less ↦ before k less e
      | inr past ↦ at (subst (λ n. get_or xs n 0 ≡ c) (omega (arith, h, past)) e)
    ]

before : (p : ℕ → Bool) (xs : List ℕ) (j d : ℕ) → j < length (take (position_or_len p xs) xs)
    → p (get_or (take (position_or_len p xs) xs) j d) ≡ false
before p xs j d m = let k = fails_before_first p xs j d (grind (arith, common_steps)) in grind (arith, common_steps)

-- the bytes around the position
pub cut_there : (c : ℕ) (xs : List ℕ) (k : ℕ) → position (λ b. eqb b c) xs ≡ Some k → (k < length xs) × (xs ≡ take k xs ++ c ∷ drop (k + 1) xs)
cut_there c xs k e =
    let p : ℕ → Bool = λ b. eqb b c in
    let found = cond_some _ _ _ e in
    let within : position_or_len p xs < length xs = grind (arith, nat_tests) in
    let byte = eqb-true _ c (passes_at_first p xs 0 within) in
    let whole = split_at_first p xs 0 within ∙ ap (λ b. take (position_or_len p xs) xs ++ b ∷ drop (position_or_len p xs + 1) xs) byte in
    (omega arith, subst (λ n. xs ≡ take n xs ++ c ∷ drop (n + 1) xs) found.1 whole)

-- no separator comes before it
pub none_before : (c : ℕ) (xs : List ℕ) (k : ℕ) → position (λ b. eqb b c) xs ≡ Some k → All (λ b. eqb b c ≡ false) (take k xs)
none_before c xs k e =
    let p : ℕ → Bool = λ b. eqb b c in
    let front : All (λ b. p b ≡ false) (take (position_or_len p xs) xs) = λ j d m. before p xs j d m in
    subst (λ n. All (λ b. p b ≡ false) (take n xs)) (cond_some _ _ _ e).1 front

pub no_separator : (c : ℕ) (xs : List ℕ) → position (λ b. eqb b c) xs ≡ None → All (λ b. eqb b c ≡ false) xs
no_separator c xs e = all_fail (λ b. eqb b c) xs e

-- a line that ends
pub first_ends : (xs : List ℕ) (k : ℕ) → position (λ b. eqb b 10) xs ≡ Some k
    → (k < length xs) × HasNoFeed (take k xs) × (xs ≡ take k xs ++ 10 ∷ drop (k + 1) xs)
first_ends xs k e =
    let cut = cut_there 10 xs k e in
    (cut.0, none_before 10 xs k e, cut.1)

pub none_ends : (xs : List ℕ) → position (λ b. eqb b 10) xs ≡ None → HasNoFeed xs
none_ends xs e = all_fail (λ b. eqb b 10) xs e
