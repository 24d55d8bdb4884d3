-- The result of `clamp` inside the range and outside it.
use Rattle.std.proofs.Common.{◌≡◌, ◌↔◌, Bool, true, false, IsTrue, ℤ, pos, negsuc, neg_ℤ, ◌+ℤ◌, ◌*ℤ◌, ◌≤ℤ◌, ◌<ℤ◌, FitsSigned, arith}
use mathlib.Core.Bool.{beq}
use Rattle.std.specs.Int.{int_min, w64}
use Rattle.std.specs.Int.Signed.{lt_z}
use Rattle.std.proofs.lemmas.Int.{ints, clamps, by_lt_z}
use Rattle.cal_span.specs.SignedDuration.{second, IsDuration, clamp, min_duration, max_duration}
use Rattle.cal_span.specs.Fields.{nanoseconds_of_fields, IsNormal}
use Rattle.cal_span.specs.FieldsLaws.{times-second}
use Rattle.cal_span.specs.declared.signed_duration.SignedDuration.TheInside.{Inside}

pub clamp-inside : (v : ℤ) → IsDuration v → clamp v ≡ v
clamp-inside v d =
    let low = d.at_least in
    let high = d.at_most in
    omega (arith, ints, clamps)

pub clamp-below : (v : ℤ) → v ≤ℤ max_duration → ¬ IsDuration v → clamp v ≡ min_duration
clamp-below v high outside =
    by_lt_z v min_duration
    (λ below. omega (arith, ints, clamps))
    (λ low. absurd (outside (record { at_least = low; at_most = high })))

pub clamp-above : (v : ℤ) → min_duration ≤ℤ v → ¬ IsDuration v → clamp v ≡ max_duration
clamp-above v low outside =
    by_lt_z max_duration v
    (λ above. omega (arith, ints, clamps))
    (λ high. absurd (outside (record { at_least = low; at_most = high })))

-- A sum is not above the maximum if the seconds of one side are negative, and not below the minimum
-- if the seconds of no side are.
module _ (a b : Inside) (v w : ℤ) (h : IsNormal a) (k : IsNormal b) (f : FitsSigned w64 a.seconds) (g : FitsSigned w64 b.seconds) (is_v : nanoseconds_of_fields a ≡ v) (is_w : nanoseconds_of_fields b ≡ w) where
  pub sum-at_most : int_min a.seconds b.seconds <ℤ pos 0 → (v +ℤ w) ≤ℤ max_duration
  sum-at_most side =
      let p = times-second a.seconds in
      let q = times-second b.seconds in
      by_lt_z a.seconds (pos 0)
      (λ left. grind (arith, ints))
      (λ not_left. let right : b.seconds <ℤ pos 0 = omega (arith, ints, clamps) in grind (arith, ints))

  pub sum-at_least : pos 0 ≤ℤ int_min a.seconds b.seconds → min_duration ≤ℤ (v +ℤ w)
  sum-at_least neither =
      let p = times-second a.seconds in
      let q = times-second b.seconds in
      let left : pos 0 ≤ℤ a.seconds = omega (arith, ints, clamps) in
      let right : pos 0 ≤ℤ b.seconds = omega (arith, ints, clamps) in
      let low_v : neg_ℤ (pos second) <ℤ v = omega (arith, ints) in
      let low_w : neg_ℤ (pos second) <ℤ w = omega (arith, ints) in
      omega (arith, ints)

-- A product of two numbers is not negative if they have the same sign, and not positive if they
-- have opposite signs. b says whether v is negative.
pub product-at_least : (v k : ℤ) (b : Bool) → IsTrue b ↔ (v <ℤ pos 0) → beq b (lt_z k (pos 0)) ≡ true → min_duration ≤ℤ (v *ℤ k)
product-at_least (pos v) (pos k) b is_below same = omega (arith, ints)
product-at_least (pos v) (negsuc k) b is_below same = absurd (grind (arith, ints, is_below))
product-at_least (negsuc v) (pos k) b is_below same = absurd (grind (arith, ints, is_below))
product-at_least (negsuc v) (negsuc k) b is_below same = omega (arith, ints)

pub product-at_most : (v k : ℤ) (b : Bool) → IsTrue b ↔ (v <ℤ pos 0) → beq b (lt_z k (pos 0)) ≡ false → (v *ℤ k) ≤ℤ max_duration
product-at_most (pos v) (pos k) b is_below other = absurd (grind (arith, ints, is_below))
product-at_most (pos v) (negsuc k) b is_below other = omega (arith, ints)
product-at_most (negsuc v) (pos k) b is_below other = omega (arith, ints)
product-at_most (negsuc v) (negsuc k) b is_below other = absurd (grind (arith, ints, is_below))
