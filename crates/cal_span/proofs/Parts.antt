-- The positive and the negative part of a duration's number, from its fields.
use Rattle.std.proofs.Common.{◌≡◌, zero, suc, ℤ, pos, negsuc, ◌+ℤ◌, ◌*ℤ◌, ◌≤ℤ◌, ◌<ℤ◌, ◌+◌, ◌*◌, ◌/◌, ◌%◌, ◌<◌, ℕ, unsigned_abs, int_div, ap, arith}
use borrow.Author.Differences.{up, down}
use Rattle.std.proofs.lemmas.Int.{ints}
use Rattle.cal_span.specs.SignedDuration.{second, minute, hour, day, week, cut}
use Rattle.cal_span.specs.Fields.{nanoseconds_of_fields, IsNormal}
use Rattle.cal_span.specs.FieldsLaws.{times-second}
use Rattle.cal_span.specs.declared.signed_duration.SignedDuration.TheInside.{Inside}

-- Numbers that don't have opposite signs add up part by part.
pub sum-parts : (x y : ℤ) → (pos 0 <ℤ x → pos 0 ≤ℤ y) → (x <ℤ pos 0 → y ≤ℤ pos 0) → (up (x +ℤ y) ≡ up x + up y) × (down (x +ℤ y) ≡ down x + down y)
sum-parts (pos m) (pos n) p q = (omega (arith, ints), omega (arith, ints))
sum-parts (pos zero) (negsuc n) p q =
    let e : pos zero +ℤ negsuc n ≡ negsuc n = omega (arith, ints) in
    (omega (arith, ints), omega (arith, ints))
sum-parts (pos (suc m)) (negsuc n) p q = absurd (omega (arith, ints, p (omega (arith, ints))))
sum-parts (negsuc m) (pos zero) p q =
    let e : negsuc m +ℤ pos zero ≡ negsuc m = omega (arith, ints) in
    (omega (arith, ints), omega (arith, ints))
sum-parts (negsuc m) (pos (suc n)) p q = absurd (omega (arith, ints, q (omega (arith, ints))))
sum-parts (negsuc m) (negsuc n) p q = (omega (arith, ints), omega (arith, ints))

pub parts : (fields : Inside) → IsNormal fields → (up (nanoseconds_of_fields fields) ≡ second * up fields.seconds + up fields.nanoseconds) × (down (nanoseconds_of_fields fields) ≡ second * down fields.seconds + down fields.nanoseconds)
parts fields h =
    let t = times-second fields.seconds in
    let s = sum-parts (fields.seconds *ℤ pos second) fields.nanoseconds (λ x. h.positive (omega (arith, ints))) (λ x. h.negative (omega (arith, ints))) in
    (omega arith, omega arith)

-- The magnitude of a number is the sum of its two parts.
abs-parts : (z : ℤ) → unsigned_abs z ≡ up z + down z
abs-parts (pos n) = omega arith
abs-parts (negsuc n) = omega arith

-- The magnitude of a duration, from the magnitudes of its fields.
pub magnitude : (fields : Inside) (v : ℤ) → IsNormal fields → nanoseconds_of_fields fields ≡ v → unsigned_abs v ≡ unsigned_abs fields.seconds * second + unsigned_abs fields.nanoseconds
magnitude fields v h is_v =
    let p = parts fields h in
    let same = ap unsigned_abs is_v in
    omega (arith, abs-parts (nanoseconds_of_fields fields), abs-parts fields.seconds, abs-parts fields.nanoseconds)

pub nanoseconds-below : (fields : Inside) → IsNormal fields → unsigned_abs fields.nanoseconds < second
nanoseconds-below fields h = omega (arith, ints, h.above, h.below)

-- The seconds and the nanoseconds past them, from a magnitude.
pub magnitude-seconds : (m s n : ℕ) → m ≡ s * second + n → n < second → s ≡ m / second
magnitude-seconds m s n e below = omega arith

pub magnitude-nanoseconds : (m s n : ℕ) → m ≡ s * second + n → n < second → n ≡ m % second
magnitude-nanoseconds m s n e below = omega arith

-- Whole units of a duration are whole units of its seconds.
parts-below : (fields : Inside) → IsNormal fields → (up fields.nanoseconds < second) × (down fields.nanoseconds < second)
parts-below fields h = (omega (arith, nanoseconds-below fields h, abs-parts fields.nanoseconds), omega (arith, nanoseconds-below fields h, abs-parts fields.nanoseconds))

module _ (fields : Inside) (v : ℤ) (h : IsNormal fields) (is_v : nanoseconds_of_fields fields ≡ v) where
  pub whole-weeks : int_div fields.seconds (pos 604_800) ≡ cut v (pos week)
  whole-weeks = let p = parts fields h in let b = parts-below fields h in omega (arith, ints)

  pub whole-days : int_div fields.seconds (pos 86_400) ≡ cut v (pos day)
  whole-days = let p = parts fields h in let b = parts-below fields h in omega (arith, ints)

  pub whole-hours : int_div fields.seconds (pos 3_600) ≡ cut v (pos hour)
  whole-hours = let p = parts fields h in let b = parts-below fields h in omega (arith, ints)

  pub whole-minutes : int_div fields.seconds (pos 60) ≡ cut v (pos minute)
  whole-minutes = let p = parts fields h in let b = parts-below fields h in omega (arith, ints)
