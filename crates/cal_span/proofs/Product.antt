-- The product of a duration and a factor, from the products of its fields.
use Rattle.std.proofs.Common.{◌≡◌, zero, suc, ◌*◌, ◌≤◌, ◌<◌, lit<, ℤ, pos, negsuc, ◌+ℤ◌, ◌*ℤ◌, ◌≤ℤ◌, ◌<ℤ◌, unsigned_abs, int_rem, FitsSigned, sym, ap, ◌∙◌, arith}
use Rattle.std.specs.Int.{w64}
use borrow.Author.Differences.{up, down, same_in, sum_is_lem, product_is}
use Rattle.std.proofs.lemmas.Int.{ints, by_lt_z, fits_signed_mul, quot-rem, rem_below, unsigned_abs-mul}
use Rattle.std.proofs.lemmas.Nat.{mul-le}
use Rattle.std.proofs.Math.Nat.{mul-le-mul_right}
use Rattle.cal_span.specs.SignedDuration.{second, subsec_nanoseconds, IsMagnitudeWithin}
use Rattle.cal_span.specs.Fields.{nanoseconds_of_fields, IsNormal}
use Rattle.cal_span.specs.FieldsLaws.{times-second, fields_of-nanoseconds_of_fields}
use Rattle.cal_span.specs.declared.signed_duration.SignedDuration.TheInside.{Inside}

-- The product of a sum is the sum of the products.
product-sum : (x y k : ℤ) → (x +ℤ y) *ℤ k ≡ x *ℤ k +ℤ y *ℤ k
product-sum x y k =
    let sum = sum_is_lem x y in
    let above = ap (λ n. n * up k) sum in
    let below = ap (λ n. n * down k) sum in
    same_in ((x +ℤ y) *ℤ k) (x *ℤ k +ℤ y *ℤ k) (omega (arith, sum_is_lem, product_is))

product-second : (s k : ℤ) → (s *ℤ pos second) *ℤ k ≡ (s *ℤ k) *ℤ pos second
product-second s k =
    let t = times-second s in
    let up_up = ap (λ n. n * up k) t.0 in
    let up_down = ap (λ n. n * down k) t.0 in
    let down_up = ap (λ n. n * up k) t.1 in
    let down_down = ap (λ n. n * down k) t.1 in
    same_in ((s *ℤ pos second) *ℤ k) ((s *ℤ k) *ℤ pos second) (omega (arith, product_is))

pub product-fields : (a : Inside) (v k : ℤ) → nanoseconds_of_fields a ≡ v → v *ℤ k ≡ (a.seconds *ℤ k) *ℤ pos second +ℤ a.nanoseconds *ℤ k
product-fields a v k is_v =
    ap (λ x. x *ℤ k) (sym is_v)
    ∙ product-sum (a.seconds *ℤ pos second) a.nanoseconds k
    ∙ ap (λ x. x +ℤ a.nanoseconds *ℤ k) (product-second a.seconds k)

-- If two numbers don't have opposite signs, their products with the same factor don't either.
pub product-positive : (s n k : ℤ) → (pos 0 <ℤ s → pos 0 ≤ℤ n) → (s <ℤ pos 0 → n ≤ℤ pos 0) → pos 0 <ℤ (s *ℤ k) → pos 0 ≤ℤ (n *ℤ k)
product-positive (pos s) (pos n) (pos k) p q h = omega (arith, ints)
product-positive (pos s) (pos n) (negsuc k) p q h = absurd (omega (arith, ints))
product-positive (pos zero) (negsuc n) k p q h = absurd (omega (arith, ints))
product-positive (pos (suc s)) (negsuc n) k p q h = absurd (omega (arith, ints, p (omega (arith, ints))))
product-positive (negsuc s) (pos zero) k p q h = omega (arith, ints)
product-positive (negsuc s) (pos (suc n)) k p q h = absurd (omega (arith, ints, q (omega (arith, ints))))
product-positive (negsuc s) (negsuc n) (pos k) p q h = absurd (omega (arith, ints))
product-positive (negsuc s) (negsuc n) (negsuc k) p q h = omega (arith, ints)

pub product-negative : (s n k : ℤ) → (pos 0 <ℤ s → pos 0 ≤ℤ n) → (s <ℤ pos 0 → n ≤ℤ pos 0) → (s *ℤ k) <ℤ pos 0 → (n *ℤ k) ≤ℤ pos 0
product-negative (pos s) (pos n) (pos k) p q h = absurd (omega (arith, ints))
product-negative (pos s) (pos n) (negsuc k) p q h = omega (arith, ints)
product-negative (pos zero) (negsuc n) k p q h = absurd (omega (arith, ints))
product-negative (pos (suc s)) (negsuc n) k p q h = absurd (omega (arith, ints, p (omega (arith, ints))))
product-negative (negsuc s) (pos zero) k p q h = omega (arith, ints)
product-negative (negsuc s) (pos (suc n)) k p q h = absurd (omega (arith, ints, q (omega (arith, ints))))
product-negative (negsuc s) (negsuc n) (pos k) p q h = omega (arith, ints)
product-negative (negsuc s) (negsuc n) (negsuc k) p q h = absurd (omega (arith, ints))

-- The nanoseconds past the seconds, times a factor of 33 bits, fit in an i64.
pub past-fits : (v k : ℤ) → IsMagnitudeWithin 4_294_967_295 k → FitsSigned w64 (subsec_nanoseconds v *ℤ k)
past-fits v k within =
    let parts = quot-rem v (pos second) in
    let small = rem_below v (pos second) (omega arith) in
    fits_signed_mul w64 (subsec_nanoseconds v) k 999_999_999 4_294_967_295 (omega (arith, ints)) (omega (arith, ints)) (lit< tt)

-- The nanoseconds past the seconds are the nanoseconds of the fields.
pub subsec_nanoseconds-fields : (a : Inside) (v : ℤ) → IsNormal a → nanoseconds_of_fields a ≡ v → subsec_nanoseconds v ≡ a.nanoseconds
subsec_nanoseconds-fields a v h is_v =
    let parts = quot-rem v (pos second) in
    let rest : int_rem v (pos second) ≡ a.nanoseconds = ap (λ x. int_rem x (pos second)) (sym is_v) ∙ ap (λ fields. fields.nanoseconds) (fields_of-nanoseconds_of_fields a h) in
    omega (arith, ints)

-- The fields of a number have its sign.
above-fields : (a : Inside) → IsNormal a → pos 0 ≤ℤ nanoseconds_of_fields a → (pos 0 ≤ℤ a.seconds) × (pos 0 ≤ℤ a.nanoseconds)
above-fields a h from =
    let t = times-second a.seconds in
    (grind (arith, ints), grind (arith, ints))

below-fields : (a : Inside) → IsNormal a → nanoseconds_of_fields a ≤ℤ pos 0 → (a.seconds ≤ℤ pos 0) × (a.nanoseconds ≤ℤ pos 0)
below-fields a h to =
    let t = times-second a.seconds in
    (grind (arith, ints), grind (arith, ints))

-- If n is less than a second, the seconds of n * k are not more than k.
seconds-small : (a : Inside) (n k : ℤ) → IsNormal a → nanoseconds_of_fields a ≡ n *ℤ k → unsigned_abs n ≤ 999_999_999 → unsigned_abs a.seconds ≤ unsigned_abs k
seconds-small a n k h is small =
    let size = unsigned_abs-mul n k in
    let most = mul-le-mul_right {m = unsigned_abs n} {n = 999_999_999} (unsigned_abs k) small in
    let t = times-second a.seconds in
    grind (arith, ints)

-- b is the product of k and the nanoseconds of a past its seconds. Its seconds carry over into the
-- product of a and k.
pub record IsProduct (a b : Inside) (v k : ℤ) : Type 0 where
  pub small : unsigned_abs b.seconds ≤ unsigned_abs k
  pub positive : pos 0 <ℤ (a.seconds *ℤ k) → pos 0 ≤ℤ b.seconds
  pub negative : (a.seconds *ℤ k) <ℤ pos 0 → b.seconds ≤ℤ pos 0
  pub normal : IsNormal (record { seconds = a.seconds *ℤ k +ℤ b.seconds; nanoseconds = b.nanoseconds })
  pub whole : nanoseconds_of_fields (record { seconds = a.seconds *ℤ k +ℤ b.seconds; nanoseconds = b.nanoseconds }) ≡ v *ℤ k

pub IsProduct-of : (a b : Inside) (v k : ℤ) → IsNormal a → IsNormal b → nanoseconds_of_fields a ≡ v → nanoseconds_of_fields b ≡ subsec_nanoseconds v *ℤ k → IsProduct a b v k
IsProduct-of a b v k h g is_v is_past =
    let is : nanoseconds_of_fields b ≡ a.nanoseconds *ℤ k = is_past ∙ ap (λ n. n *ℤ k) (subsec_nanoseconds-fields a v h is_v) in
    let above = λ (s : pos 0 <ℤ (a.seconds *ℤ k)). above-fields b g (rw is (product-positive a.seconds a.nanoseconds k h.positive h.negative s)) in
    let below = λ (s : (a.seconds *ℤ k) <ℤ pos 0). below-fields b g (rw is (product-negative a.seconds a.nanoseconds k h.positive h.negative s)) in
    record {
      small = seconds-small b a.nanoseconds k g is (omega (arith, ints, h.above, h.below));
      positive = λ s. (above s).0;
      negative = λ s. (below s).0;
      normal = record {
        above = g.above;
        below = g.below;
        positive = λ sum. by_lt_z (pos 0) (a.seconds *ℤ k) (λ s. (above s).1) (λ rest. g.positive (omega (arith, ints)));
        negative = λ sum. by_lt_z (a.seconds *ℤ k) (pos 0) (λ s. (below s).1) (λ rest. g.negative (omega (arith, ints)));
      };
      whole =
          let q = times-second (a.seconds *ℤ k) in
          let p = times-second b.seconds in
          let r = times-second (a.seconds *ℤ k +ℤ b.seconds) in
          omega (arith, ints, product-fields a v k is_v);
    }

-- Two factors of 32 bits and a carry that is not above the second factor cannot overflow.
pub small-fits : (s k c : ℤ) → unsigned_abs s < 4_294_967_295 → unsigned_abs k ≤ 2_147_483_648 → unsigned_abs c ≤ unsigned_abs k
    → FitsSigned w64 (s *ℤ k) × FitsSigned w64 (s *ℤ k +ℤ c)
small-fits s k c s_small k_small c_small =
    let size = unsigned_abs-mul s k in
    let most = mul-le (unsigned_abs s) (unsigned_abs k) 4_294_967_294 2_147_483_648 (omega arith) k_small in
    (omega (arith, ints), omega (arith, ints))

-- If the sum of two numbers without opposite signs fits in an i64, the first number fits.
pub first-fits : (p c : ℤ) → (pos 0 <ℤ p → pos 0 ≤ℤ c) → (p <ℤ pos 0 → c ≤ℤ pos 0) → FitsSigned w64 (p +ℤ c) → FitsSigned w64 p
first-fits p c positive negative fits =
    by_lt_z p (pos 0)
    (λ below. omega (arith, ints, negative below))
    (λ not_below. by_lt_z (pos 0) p
    (λ above. omega (arith, ints, positive above))
    (λ not_above. omega (arith, ints)))
