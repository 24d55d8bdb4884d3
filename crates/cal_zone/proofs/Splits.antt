-- A binary search over numbers: what is known between its steps, and of numbers that rise at its end.
use Rattle.std.proofs.Common.{◌≡◌, ap, inl, inr, ℕ, ◌+◌, ◌-◌, ◌<◌, ◌≤◌, arith, subst}
use Rattle.std.proofs.lemmas.Bool.{cases_eq}
use Rattle.std.proofs.lemmas.Int.{ints}
use mir.Val.{bool_byte}
use Rattle.std.specs.Prelude.{ℤ, ◌<ℤ◌, ◌≤ℤ◌, ◌+ℤ◌, ◌-ℤ◌, int_le, int_lt, true, false}
use Rattle.cal_zone.specs.Split.{IsBracket, IsSplit}
use Rattle.cal_zone.proofs.Orders.{less_trans, trans}

pub from_index : (f : ℕ → ℤ) (n : ℕ) (x : ℤ) (k low high : ℕ) → low ≡ k + 1 → low ≤ high → high ≤ n → f k ≤ℤ x → (high < n → x <ℤ f high) → IsBracket f n x low high
from_index f n x k low high e ordered inside here above = record {
  ordered = ordered;
  inside = inside;
  below = λ j g. let same : j ≡ k = omega arith in rw same here;
  above = above;
}

pub upward : (f : ℕ → ℤ) (n : ℕ) (x : ℤ) (low high middle : ℕ) → IsBracket f n x low high → middle < high → f middle ≤ℤ x → IsBracket f n x (middle + 1) high
upward f n x low high middle b less here = from_index f n x middle (middle + 1) high (omega arith) (omega arith) b.inside here b.above

pub rising_split : (f : ℕ → ℤ) (n : ℕ) (x : ℤ) (m : ℕ) → ((j k : ℕ) → j ≤ k → k < n → f j ≤ℤ f k) → IsBracket f n x m m → IsSplit f n x m m
rising_split f n x m rises b = record {
  ordered = omega arith;
  inside = b.inside;
  below = λ k h.
      let inside = b.inside in
      trans (f k) (f (m - 1)) x (rises k (m - 1) (omega arith) (omega arith)) (b.below (m - 1) (omega arith));
  above = λ k h p. less_trans x (f m) (f k) (b.above (omega arith)) (rises m k h p);
}

-- A count of 1 for a number that is at most x, else of 0.
pub record IsCounted (p x : ℤ) (a : ℕ) : Type 0 where
  pub most : a ≤ 1
  pub yes : a ≡ 1 → p ≤ℤ x
  pub no : a ≡ 0 → x <ℤ p

counted : (p x : ℤ) (a : ℕ) → a ≡ bool_byte (int_le p x) → IsCounted p x a
counted p x a e = record { most = grind (arith, ints); yes = λ h. grind (arith, ints); no = λ h. grind (arith, ints) }

-- What a look at two numbers gives, if each number is followed after two steps by one that is more by
-- d: those that are at most x are counted.
pub pair_bracket : (f : ℕ → ℤ) (n : ℕ) (x d : ℤ) (k a b : ℕ) → ((j : ℕ) → j + 2 < n → (f j +ℤ d) ≤ℤ f (j + 2)) → f k ≤ℤ f (k + 1) → k + 1 < n
    → a ≡ bool_byte (int_le (f k) x) → b ≡ bool_byte (int_le (f (k + 1)) x) → (f (k + 1) -ℤ d) ≤ℤ x → x <ℤ (f k +ℤ d) → IsBracket f n x (k + a + b) (k + a + b)
pair_bracket f n x d k a b far rise inside a_is b_is low high =
    let first = counted (f k) x a a_is in
    let second = counted (f (k + 1)) x b b_is in
    let first_most = first.most in
    let second_most = second.most in record {
      ordered = omega arith;
      inside = omega arith;
      below = λ j h.
          elim (cases_eq b 1) as (λ _. f j ≤ℤ x) [
            | inl two ↦
                elim (cases_eq a 1) as (λ _. f j ≤ℤ x) [
                  | inl one ↦ let e : j ≡ k + 1 = omega arith in rw e (second.yes two)
                  | inr none ↦ let e : j ≡ k = omega arith in rw e (trans (f k) (f (k + 1)) x rise (second.yes two))
                ]
            | inr less ↦
                elim (cases_eq a 1) as (λ _. f j ≤ℤ x) [
                  | inl one ↦ let e : j ≡ k = omega arith in rw e (first.yes one)
                  | inr none ↦
                      let e : k + 1 ≡ j + 2 = omega arith in
                      let step = far j (omega arith) in
                      omega (arith, ints, step, low, ap f e)
                ]
          ];
      above = λ h.
          elim (cases_eq a 1) as (λ _. x <ℤ f (k + a + b)) [
            | inl one ↦
                elim (cases_eq b 1) as (λ _. x <ℤ f (k + a + b)) [
                  | inl two ↦
                      let e : k + a + b ≡ k + 2 = omega arith in
                      let step = far k (omega arith) in
                      rw e (less_trans x (f k +ℤ d) (f (k + 2)) high step)
                  | inr less ↦ let e : k + a + b ≡ k + 1 = omega arith in rw e (second.no (omega arith))
                ]
            | inr none ↦
                elim (cases_eq b 1) as (λ _. x <ℤ f (k + a + b)) [
                  | inl two ↦ let e : k + a + b ≡ k + 1 = omega arith in rw e (less_trans x (f k) (f (k + 1)) (first.no (omega arith)) rise)
                  | inr less ↦ let e : k + a + b ≡ k = omega arith in rw e (first.no (omega arith))
                ]
          ];
    }

pub ended : (f : ℕ → ℤ) (n : ℕ) (x : ℤ) (low high : ℕ) → high ≤ low → IsBracket f n x low high → IsBracket f n x low low
ended f n x low high h b =
    let ordered = b.ordered in
    let e : high ≡ low = omega arith in
    subst (λ (m : ℕ). IsBracket f n x low m) e b

-- what a test of the code says of the numbers that it stands for
pub is_past : (p q a x : ℤ) → int_le p q ≡ true → p ≡ a → q ≡ x → a ≤ℤ x
is_past p q a x h e f = grind (arith, ints)

pub not_past : (p q a x : ℤ) → int_le p q ≡ false → p ≡ a → q ≡ x → x <ℤ a
not_past p q a x h e f = grind (arith, ints)

pub is_ahead : (p q x a : ℤ) → int_lt p q ≡ true → p ≡ x → q ≡ a → x <ℤ a
is_ahead p q x a h e f = grind (arith, ints)

pub not_ahead : (p q x a : ℤ) → int_lt p q ≡ false → p ≡ x → q ≡ a → a ≤ℤ x
not_ahead p q x a h e f = grind (arith, ints)

pub same_split : (f : ℕ → ℤ) (n : ℕ) (x y : ℤ) (low high : ℕ) → y ≡ x → IsSplit f n y low high → IsSplit f n x low high
same_split f n x y low high e split = subst (λ (z : ℤ). IsSplit f n z low high) e split
