-- A date inserted into dates in ascending order.
use Rattle.std.proofs.Common.{◌≡◌, ◌⊎◌, ℕ, ◌+◌, ◌-◌, ◌<◌, ◌≤◌, List, length, get_or, set, take, ap, sym, ◌∙◌, inl, inr, arith, get_or-set_other, get_or-set_same, length-set}
use Rattle.std.specs.List.{CopiedTo, SameBelow, SameFrom}
use Rattle.std.specs.Prelude.{◌↔◌, Contains}
use Rattle.std.proofs.lemmas.Bool.{cases_lt}
use Rattle.std.proofs.lemmas.Int.{ints}
use Rattle.std.proofs.lemmas.List.{get_or-take, get_or_default, length-take-le}
use Rattle.cal_time.specs.Counted.{IsRising}
use Rattle.cal_time.specs.Date.{julian_day_at}
use Rattle.cal_schedule.proofs.WorkdaysWeeks.{Rises, rises}

-- the first dates, the new one, and the others, each at the next index
pub record IsInserted (xs ys : List ℕ) (at date : ℕ) : Type 0 where
  pub most : at ≤ length xs
  pub longer : length ys ≡ length xs + 1
  pub below : (k : ℕ) → k < at → get_or ys k 0 ≡ get_or xs k 0
  pub placed : get_or ys at 0 ≡ date
  pub above : (k : ℕ) → at ≤ k → k < length xs → get_or ys (k + 1) 0 ≡ get_or xs k 0

pub is_inserted : (old mid : List ℕ) (count at date : ℕ) → at ≤ count → count < length old → length mid ≡ length old
    → CopiedTo old mid at (at + 1) (count - at) × SameBelow old mid (at + 1) × SameFrom old mid (at + 1 + (count - at))
    → IsInserted (take count old) (take (count + 1) (set mid at date)) at date
is_inserted old mid count at date most within same copy =
    let new = set mid at date in
    let few : length (take count old) ≡ count = length-take-le count old (omega arith) in
    record {
      most = omega arith;
      longer = taken new (omega (arith, length-set {A = ℕ})) ∙ ap (λ n. n + 1) (sym few);
      below = λ k h.
          get_or-take (count + 1) new k 0 (omega arith) ∙ get_or-set_other mid at k date 0 (omega arith) ∙ copy.1 k 0 (omega arith)
          ∙ sym (get_or-take count old k 0 (omega arith));
      placed = get_or-take (count + 1) new at 0 (omega arith) ∙ get_or-set_same mid at date 0 (omega arith);
      above = λ k h l.
          let e : at + (k + 1 - (at + 1)) ≡ k = omega arith in
          get_or-take (count + 1) new (k + 1) 0 (omega arith) ∙ get_or-set_other mid at (k + 1) date 0 (omega arith)
          ∙ copy.0 (k + 1) 0 (omega arith) (omega arith) ∙ ap (λ i. get_or old i 0) e ∙ sym (get_or-take count old k 0 (omega arith));
    }
  where
    taken : (new : List ℕ) → count < length new → length (take (count + 1) new) ≡ count + 1
    taken new h = length-take-le (count + 1) new (omega arith)

next_rises : (xs ys : List ℕ) (at date : ℕ) → Rises xs → IsInserted xs ys at date → (0 < at → get_or xs (at - 1) 0 < date)
    → (at < length xs → date < get_or xs at 0) → (k : ℕ) → k < length xs → get_or ys k 0 < get_or ys (k + 1) 0
next_rises xs ys at date r s before after k h =
    elim (cases_lt k at) as (λ _. get_or ys k 0 < get_or ys (k + 1) 0) [
      | inl less ↦ elim (cases_lt (k + 1) at) as (λ _. get_or ys k 0 < get_or ys (k + 1) 0) [
        | inl far ↦ omega (arith, s.below k less, s.below (k + 1) far, r k (k + 1) (omega arith) (omega (arith, far, s.most)))
        | inr near ↦
            let last : at - 1 ≡ k = omega arith in
            let next : at ≡ k + 1 = omega arith in
            omega (arith, s.below k less, before (omega arith), ap (λ j. get_or xs j 0) last, s.placed, ap (λ j. get_or ys j 0) next)
      ]
      | inr most ↦ elim (cases_lt at k) as (λ _. get_or ys k 0 < get_or ys (k + 1) 0) [
        | inl far ↦
            let e : k - 1 + 1 ≡ k = omega arith in
            omega (arith, s.above (k - 1) (omega arith) (omega arith), ap (λ j. get_or ys j 0) e, s.above k most h, r (k - 1) k (omega arith) h)
        | inr near ↦
            let e : at ≡ k = omega arith in
            omega (arith, s.placed, ap (λ j. get_or ys j 0) e, s.above k most h, after (omega arith), ap (λ j. get_or xs j 0) e)
      ]
    ]

pub rising_inserted : (xs ys : List ℕ) (at date : ℕ) → IsRising julian_day_at xs → IsInserted xs ys at date → (0 < at → get_or xs (at - 1) 0 < date)
    → (at < length xs → date < get_or xs at 0) → IsRising julian_day_at ys
rising_inserted xs ys at date rising s before after k d h =
    let next = next_rises xs ys at date (rises xs rising) s before after k (omega (arith, h, s.longer)) in
    omega (arith, ints, next, get_or_default ys k d 0 (omega arith), get_or_default ys (k + 1) d 0 h)

-- the new dates are the old ones and the date
from_new : (xs ys : List ℕ) (at date n k : ℕ) → IsInserted xs ys at date → k < length ys → get_or ys k 0 ≡ n → (n ≡ date) ⊎ Contains xs n
from_new xs ys at date n k s h e =
    elim (cases_lt k at) [
      | inl less ↦ inr (k, omega (arith, less, s.most), get_or_default xs k n 0 (omega (arith, less, s.most)) ∙ sym (s.below k less) ∙ e)
      | inr most ↦ elim (cases_lt at k) [
        | inl far ↦
            let next : k - 1 + 1 ≡ k = omega arith in
            let within : k - 1 < length xs = omega (arith, h, s.longer, far) in
            inr (k - 1, within, get_or_default xs (k - 1) n 0 within ∙ sym (s.above (k - 1) (omega arith) within) ∙ ap (λ j. get_or ys j 0) next ∙ e)
        | inr near ↦ let here : k ≡ at = omega arith in inl (sym e ∙ ap (λ j. get_or ys j 0) here ∙ s.placed)
      ]
    ]

into_new : (xs ys : List ℕ) (at date n k : ℕ) → IsInserted xs ys at date → k < length xs → get_or xs k n ≡ n → Contains ys n
into_new xs ys at date n k s h e =
    elim (cases_lt k at) [
      | inl less ↦ (k, omega (arith, h, s.longer), get_or_default ys k n 0 (omega (arith, h, s.longer)) ∙ s.below k less ∙ get_or_default xs k 0 n h ∙ e)
      | inr most ↦
          (k + 1, omega (arith, h, s.longer), get_or_default ys (k + 1) n 0 (omega (arith, h, s.longer)) ∙ s.above k most h ∙ get_or_default xs k 0 n h ∙ e)
    ]

pub contains_inserted : (xs ys : List ℕ) (at date : ℕ) → IsInserted xs ys at date → (n : ℕ) → Contains ys n ↔ (n ≡ date) ⊎ Contains xs n
contains_inserted xs ys at date s n = (
  λ has. from_new xs ys at date n has.0 s has.1 (get_or_default ys has.0 0 n has.1 ∙ has.2),
  λ found. elim found [
    | inl same ↦ (at, omega (arith, s.longer, s.most), get_or_default ys at n 0 (omega (arith, s.longer, s.most)) ∙ s.placed ∙ sym same)
    | inr old ↦ into_new xs ys at date n old.0 s old.1 old.2
  ],
)

-- a date that is one of them
pub contains_same : (xs : List ℕ) (at date : ℕ) → at < length xs → get_or xs at 0 ≡ date → (n : ℕ) → Contains xs n ↔ (n ≡ date) ⊎ Contains xs n
contains_same xs at date h e n = (
  λ has. inr has,
  λ found. elim found [ inl same ↦ (at, h, get_or_default xs at n 0 h ∙ e ∙ sym same) | inr old ↦ old ],
)
