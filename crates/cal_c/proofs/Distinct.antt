-- Numbers of a sorted list that are moved to its front, each once.
use Rattle.std.proofs.Common.{◌≡◌, ◌≢◌, ℕ, ◌+◌, ◌-◌, ◌<◌, ◌≤◌, inl, inr, refl, sym, ap, ◌∙◌, arith, List, false, get_or, length, pos, ℤ, ◌<ℤ◌, ◌≤ℤ◌}
use Rattle.std.proofs.Math.ListN.{set}
use Rattle.std.specs.List.Sorted.{IsPermutation, IsSorted}
use Rattle.std.proofs.Common.{Ordering, Less, Equal, Greater}
use Rattle.std.specs.Ordering.{int_cmp, is_lt, MatchOrdering}
use Rattle.std.proofs.lemmas.Bool.{cases_lt}
use Rattle.std.proofs.lemmas.Cmp.{int_ranked}
use Rattle.std.proofs.lemmas.Int.{ints}
use Rattle.std.proofs.lemmas.List.{get_or_default, get_or-set_same, get_or-set_other, length-set}
use Rattle.std.proofs.lemmas.List.Sorted.{Contains-permutation, IsPermutation-sym}
use Rattle.cal_c.specs.SortedDates.{AreSortedOnce, IsAgain, IsGreater}

-- the numbers before an index are at the front, each once
pub record AreMoved (sorted now : List ℤ) (kept index : ℕ) : Type 0 where
  pub room : length now ≡ length sorted
  pub within : kept ≤ index
  pub rest : (j : ℕ) → index ≤ j → get_or now j (pos 0) ≡ get_or sorted j (pos 0)
  pub last : 0 < index → (0 < kept) × (get_or now (kept - 1) (pos 0) ≡ get_or sorted (index - 1) (pos 0))
  pub rising : (i : ℕ) → i + 1 < kept → get_or now i (pos 0) <ℤ get_or now (i + 1) (pos 0)
  pub old : (i : ℕ) → i < kept → (j : ℕ) × (j < index) × (get_or sorted j (pos 0) ≡ get_or now i (pos 0))
  pub all : (j : ℕ) → j < index → (i : ℕ) × (i < kept) × (get_or now i (pos 0) ≡ get_or sorted j (pos 0))

pub begun : (s : List ℤ) → AreMoved s s 0 0
begun s = record {
  room = refl;
  within = omega arith;
  rest = λ j h. refl;
  last = λ h. absurd (omega (arith, h));
  rising = λ i h. absurd (omega (arith, h));
  old = λ i h. absurd (omega (arith, h));
  all = λ j h. absurd (omega (arith, h));
}

-- the next number is moved, as it is the first one or greater than the last one
pub moved : (s xs : List ℤ) (kept index : ℕ) → AreMoved s xs kept index → index < length xs → IsGreater xs kept index → AreMoved s (set xs kept (get_or xs index (pos 0))) (kept + 1) (index + 1)
moved s xs kept index was low greater =
    let x = get_or xs index (pos 0) in
    let inside : kept < length xs = omega (arith, was.within, low) in
    let same : get_or (set xs kept x) kept (pos 0) ≡ x = get_or-set_same xs kept x (pos 0) inside in
    let other : (j : ℕ) → j ≢ kept → get_or (set xs kept x) j (pos 0) ≡ get_or xs j (pos 0) = λ j ne. get_or-set_other xs kept j x (pos 0) ne in
    let here : x ≡ get_or s index (pos 0) = was.rest index (omega arith) in
    record {
      room = length-set xs kept x ∙ was.room;
      within = omega (arith, was.within);
      rest = λ j h. other j (λ e. absurd (omega (arith, was.within, h, e))) ∙ was.rest j (omega (arith, h));
      last = λ h. (omega arith, ap (λ k. get_or (set xs kept x) k (pos 0)) (plus kept) ∙ same ∙ here ∙ ap (λ k. get_or s k (pos 0)) (sym (plus index)));
      rising = λ i h. elim (cases_lt (i + 1) kept) as (λ _. get_or (set xs kept x) i (pos 0) <ℤ get_or (set xs kept x) (i + 1) (pos 0)) [
        | inl less ↦ omega (arith, ints, other i (λ e. absurd (omega (arith, less, e))), other (i + 1) (λ e. absurd (omega (arith, less, e))), was.rising i less)
        | inr most ↦
            let end : i + 1 ≡ kept = omega (arith, most, h) in
            let before : i ≡ kept - 1 = omega (arith, end) in
            omega (
              arith,
              ints,
              other i (λ e. absurd (omega (arith, end, e))),
              ap (λ k. get_or xs k (pos 0)) before,
              ap (λ k. get_or (set xs kept x) k (pos 0)) end,
              same,
              greater (omega (arith, end)),
            )
      ];
      old = λ i h. elim (cases_lt i kept) as (λ _. (j : ℕ) × (j < index + 1) × (get_or s j (pos 0) ≡ get_or (set xs kept x) i (pos 0))) [
        | inl less ↦ let from = was.old i less in (from.0, omega (arith, from.1), from.2 ∙ sym (other i (λ e. absurd (omega (arith, less, e)))))
        | inr most ↦ let end : i ≡ kept = omega (arith, most, h) in (index, omega arith, sym here ∙ sym same ∙ ap (λ k. get_or (set xs kept x) k (pos 0)) (sym end))
      ];
      all = λ j h. elim (cases_lt j index) as (λ _. (i : ℕ) × (i < kept + 1) × (get_or (set xs kept x) i (pos 0) ≡ get_or s j (pos 0))) [
        | inl less ↦ let at = was.all j less in (at.0, omega (arith, at.1), other at.0 (λ e. absurd (omega (arith, at.1, e))) ∙ at.2)
        | inr most ↦ let end : index ≡ j = omega (arith, most, h) in (kept, omega arith, same ∙ here ∙ ap (λ k. get_or s k (pos 0)) end)
      ];
    }
  where
    plus : (k : ℕ) → k + 1 - 1 ≡ k
    plus k = omega arith

not_less : (r : Ordering) (x y : ℤ) → MatchOrdering r (x <ℤ y) (x ≡ y) (y <ℤ x) → is_lt r ≡ false → y ≤ℤ x
not_less Less x y m h = cc
not_less Equal x y m h = omega (arith, ints, m)
not_less Greater x y m h = omega (arith, ints, m)

-- the next number is the last one again
pub skipped : (s xs : List ℤ) (kept index : ℕ) → IsSorted int_cmp s → AreMoved s xs kept index → index < length xs → IsAgain xs kept index → AreMoved s xs kept (index + 1)
skipped s xs kept index sorted was low (some, least) =
    let front = was.last (omega (arith, was.within, some)) in
    let k : index - 1 + 1 ≡ index = omega (arith, was.within, some) in
    let order = not_less _ (get_or s (index - 1 + 1) (pos 0)) (get_or s (index - 1) (pos 0)) (int_ranked (get_or s (index - 1 + 1) (pos 0)) (get_or s (index - 1) (pos 0)) _ refl) (sorted (index - 1) (pos 0) (omega arith) (omega (arith, k, low, was.room))) in
    let here = was.rest index (omega arith) in
    let same : get_or xs (kept - 1) (pos 0) ≡ get_or s index (pos 0) = omega (arith, ints, order, ap (λ i. get_or s i (pos 0)) k, here, front.1, least) in
    record {
      room = was.room;
      within = omega (arith, was.within);
      rest = λ j h. was.rest j (omega (arith, h));
      last = λ h. (some, same ∙ ap (λ i. get_or s i (pos 0)) (sym (plus index)));
      rising = was.rising;
      old = λ i h. let from = was.old i h in (from.0, omega (arith, from.1), from.2);
      all = λ j h. elim (cases_lt j index) as (λ _. (i : ℕ) × (i < kept) × (get_or xs i (pos 0) ≡ get_or s j (pos 0))) [
        | inl less ↦ was.all j less
        | inr most ↦ let end : index ≡ j = omega (arith, most, h) in (kept - 1, omega (arith, some), same ∙ ap (λ i. get_or s i (pos 0)) end)
      ];
    }
  where
    plus : (k : ℕ) → k + 1 - 1 ≡ k
    plus k = omega arith

-- all are moved
pub done : (s xs : List ℤ) (kept index : ℕ) → AreMoved s xs kept index → index ≡ length xs → AreSortedOnce s xs kept
done s xs kept index was end = record {
  within = omega (arith, was.within, end);
  rising = was.rising;
  old = λ i h.
      let from = was.old i h in
      let low : from.0 < length s = omega (arith, from.1, end, was.room) in
      (from.0, low, get_or_default s from.0 _ (pos 0) low ∙ from.2);
  all = λ x is.
      let low : is.0 < index = omega (arith, is.1, end, was.room) in
      let at = was.all is.0 low in
      (at.0, at.1, at.2 ∙ get_or_default s is.0 (pos 0) x is.1 ∙ is.2);
}

-- those of a list in another order
pub of_permutation : (old sorted new : List ℤ) (n : ℕ) → IsPermutation old sorted → AreSortedOnce sorted new n → AreSortedOnce old new n
of_permutation old sorted new n there are = record {
  within = are.within;
  rising = are.rising;
  old = λ i h. Contains-permutation sorted old _ (IsPermutation-sym old sorted there) (are.old i h);
  all = λ x is. are.all x (Contains-permutation old sorted x there is);
}
