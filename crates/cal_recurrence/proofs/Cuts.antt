-- Cutting bytes at the first position of a byte.
use Rattle.std.proofs.Common.{◌≡◌, ℕ, ◌+◌, ◌<◌, ◌≤◌, Bool, eqb, List, [], ◌∷◌, length, take, drop, Some, None, ap, arith, subst, sym}
use Rattle.std.specs.List.{position, position_or_len}
use Rattle.std.proofs.lemmas.List.{take_all, drop_all}
use Rattle.std.proofs.lemmas.List.Splits.{slice_split_first, slice_split_none}
use Rattle.std.proofs.lemmas.List.Sums.{fails_before_first}
use Rattle.std.proofs.lemmas.Bool.Decides.{nat_tests}
use Rattle.std.proofs.lemmas.Option.{cond_some}
use Rattle.cal_recurrence.specs.Words.{front_at, parts_at, rest_at}

-- if the bytes contain it
pub cut_some : (byte k : ℕ) (xs : List ℕ) → position (λ b. eqb b byte) xs ≡ Some k
    → (k < length xs) × (parts_at byte xs ≡ take k xs ∷ parts_at byte (drop (k + 1) xs)) × (take k xs ≡ front_at byte xs) × (drop (k + 1) xs ≡ rest_at byte xs)
cut_some byte k xs e =
    let p : ℕ → Bool = λ b. eqb b byte in
    let c = cond_some _ _ _ e in
    let within : position_or_len p xs < length xs = grind (arith, nat_tests) in (
      omega arith,
      subst (λ n. parts_at byte xs ≡ take n xs ∷ parts_at byte (drop (n + 1) xs)) c.1 (slice_split_first p xs 0 within),
      ap (λ n. take n xs) (sym c.1),
      ap (λ n. drop (n + 1) xs) (sym c.1),
    )

-- if the bytes avoid it
pub cut_none : (byte : ℕ) (xs : List ℕ) → position (λ b. eqb b byte) xs ≡ None
    → (parts_at byte xs ≡ xs ∷ []) × (xs ≡ front_at byte xs) × ([] ≡ rest_at byte xs)
cut_none byte xs e =
    let p : ℕ → Bool = λ b. eqb b byte in
    let all : length xs ≤ position_or_len p xs = grind (arith, nat_tests) in (
      slice_split_none p xs (λ k d h. fails_before_first p xs k d (omega arith)),
      sym (take_all _ xs all),
      sym (drop_all _ xs (omega arith)),
    )
