-- Seconds and nanoseconds with a carry between them: when they are a duration, and which one.
use Rattle.std.proofs.Common.{◌≡◌, true, false, ℤ, pos, negsuc, neg_ℤ, ◌+ℤ◌, ◌-ℤ◌, ◌*ℤ◌, ◌≤ℤ◌, ◌<ℤ◌, Option, SomeIff, FitsSigned, ap, sym, ◌∙◌, subst, arith}
use Rattle.std.specs.Int.{w32, w64, from_bool}
use Rattle.std.specs.Int.Signed.{lt_z}
use Rattle.std.proofs.lemmas.Int.{ints, by_lt_z}
use Rattle.cal_span.specs.SignedDuration.{second, IsDuration, IsMagnitudeWithin}
use Rattle.cal_span.specs.Fields.{nanoseconds_of_fields, IsNormal, CanCarry, IsCarry}
use Rattle.cal_span.specs.FieldsLaws.{times-second}
use Rattle.cal_span.specs.declared.signed_duration.SignedDuration.TheInside.{Inside}

-- The comparison a < b counts as 1 if it is true, else as 0.
pub record Counts (a b x : ℤ) : Type 0 where
  pub one : a <ℤ b → x ≡ pos 1
  pub none : b ≤ℤ a → x ≡ pos 0

pub counted : (a b x : ℤ) → x ≡ pos (from_bool (lt_z a b)) → Counts a b x
counted a b x e = record {
  one = λ lt. let test : lt_z a b ≡ true = grind (arith, ints) in e ∙ ap (λ t. pos (from_bool t)) test;
  none = λ ge. let test : lt_z a b ≡ false = grind (arith, ints) in e ∙ ap (λ t. pos (from_bool t)) test;
}

-- The bounds of nanoseconds that need no carry.
pub record AreBounds (s most least : ℤ) : Type 0 where
  pub against_after : s <ℤ pos 0 → most ≡ pos 0
  pub along_after : pos 0 ≤ℤ s → most ≡ pos 999_999_999
  pub against_before : pos 0 <ℤ s → least ≡ pos 0
  pub along_before : s ≤ℤ pos 0 → least ≡ negsuc 999_999_998

IsCarry-up : (s n : ℤ) → CanCarry s n → pos 0 <ℤ n → (pos 0 ≤ℤ s → pos second ≤ℤ n) → IsCarry s n (pos 1)
IsCarry-up s n can side enough =
    record { at_least = omega (arith, ints); at_most = omega (arith, ints); normal = record { above = omega (arith, ints); below = omega (arith, ints, can.below); positive = λ h. omega (arith, ints); negative = λ h. by_lt_z n (pos second) (λ less. omega (arith, ints)) (λ from. omega (arith, ints, can.over from)) } }

IsCarry-down : (s n : ℤ) → CanCarry s n → n <ℤ pos 0 → (s ≤ℤ pos 0 → n ≤ℤ neg_ℤ (pos second)) → IsCarry s n (negsuc 0)
IsCarry-down s n can side enough =
    record { at_least = omega (arith, ints); at_most = omega (arith, ints); normal = record { above = omega (arith, ints, can.above); below = omega (arith, ints); positive = λ h. by_lt_z (neg_ℤ (pos second)) n (λ more. omega (arith, ints)) (λ to. omega (arith, ints, can.under to)); negative = λ h. omega (arith, ints) } }

-- The carry is the difference of two counts.
pub IsCarry-counted : (s n most least x y : ℤ) → CanCarry s n → AreBounds s most least → Counts most n x → Counts n least y → IsCarry s n (x -ℤ y)
IsCarry-counted s n most least x y can bounds above below =
    let P : ℤ → Type 0 = λ carry. IsCarry s n carry in
    let least_side : least ≤ℤ pos 0 = by_lt_z (pos 0) s (λ h. omega (arith, ints, bounds.against_before h)) (λ h. omega (arith, ints, bounds.along_before h)) in
    let most_side : pos 0 ≤ℤ most = by_lt_z s (pos 0) (λ h. omega (arith, ints, bounds.against_after h)) (λ h. omega (arith, ints, bounds.along_after h)) in
    by_lt_z most n
    (λ over. let e : pos 1 ≡ x -ℤ y = omega (arith, ints, above.one over, below.none (omega (arith, ints))) in
    subst P e (IsCarry-up s n can (omega (arith, ints)) (λ h. omega (arith, ints, bounds.along_after h))))
    (λ not_over. by_lt_z n least
    (λ under. let e : negsuc 0 ≡ x -ℤ y = omega (arith, ints, above.none not_over, below.one under) in
    subst P e (IsCarry-down s n can (omega (arith, ints)) (λ h. omega (arith, ints, bounds.along_before h))))
    (λ not_under. let e : pos 0 ≡ x -ℤ y = omega (arith, ints, above.none not_over, below.none not_under) in
    subst P e (record {
      at_least = omega (arith, ints);
      at_most = omega (arith, ints);
      normal = record {
        above = by_lt_z (pos 0) s (λ h. omega (arith, ints, bounds.against_before h)) (λ h. omega (arith, ints, bounds.along_before h));
        below = by_lt_z s (pos 0) (λ h. omega (arith, ints, bounds.against_after h)) (λ h. omega (arith, ints, bounds.along_after h));
        positive = λ h. omega (arith, ints, bounds.against_before (omega (arith, ints)));
        negative = λ h. omega (arith, ints, bounds.against_after (omega (arith, ints)));
      };
    })))

-- Seconds in an i64 and less than a second more are a duration.
pub IsDuration-sum : (s n : ℤ) → FitsSigned w64 s → IsMagnitudeWithin 999_999_999 n → IsDuration (s *ℤ pos second +ℤ n)
IsDuration-sum s n fits within =
    let t = times-second s in
    record { at_least = omega (arith, ints); at_most = omega (arith, ints) }

-- The seconds of a duration fit in an i64 if the fields don't have opposite signs.
pub seconds-fit : (s n : ℤ) → (pos 0 <ℤ s → pos 0 ≤ℤ n) → (s <ℤ pos 0 → n ≤ℤ pos 0) → IsDuration (s *ℤ pos second +ℤ n) → FitsSigned w64 s
seconds-fit s n p q d =
    let t = times-second s in
    by_lt_z s (pos 0)
    (λ below. omega (arith, ints, q below, d.at_least))
    (λ not_below. by_lt_z (pos 0) s
    (λ above. omega (arith, ints, p above, d.at_most))
    (λ not_above. omega (arith, ints)))

-- A result that is exact for v is exact for an equal number w.
pub exact-along : (r : Option ℤ) (v w : ℤ) → v ≡ w → SomeIff r (IsDuration v) v → SomeIff r (IsDuration w) w
exact-along r v w e = subst (λ u. SomeIff r (IsDuration u) u) e

-- The number of normal fields is a duration if the seconds fit in an i64.
pub IsDuration-fields : (a : Inside) → IsNormal a → FitsSigned w64 a.seconds → IsDuration (nanoseconds_of_fields a)
IsDuration-fields a h f =
    let t = times-second a.seconds in
    record { at_least = omega (arith, ints); at_most = omega (arith, ints) }

-- A carry doesn't change the number.
pub carry-whole : (s n carry : ℤ) → (s +ℤ carry) *ℤ pos second +ℤ (n -ℤ carry *ℤ pos second) ≡ s *ℤ pos second +ℤ n
carry-whole s n carry =
    let a = times-second s in
    let b = times-second carry in
    let c = times-second (s +ℤ carry) in
    omega (arith, ints)

-- The number is a duration if the seconds with the carry fit in an i64.
pub IsDuration-carried : (s n carry : ℤ) → IsCarry s n carry → FitsSigned w64 (s +ℤ carry) → IsDuration (s *ℤ pos second +ℤ n)
IsDuration-carried s n carry is fits =
    subst IsDuration (carry-whole s n carry) (IsDuration-fields (record { seconds = s +ℤ carry; nanoseconds = n -ℤ carry *ℤ pos second }) is.normal fits)

-- The seconds of a sum fit in an i64 if the sum is a duration.
pub add-fits : (a b : Inside) (v w : ℤ) → IsNormal a → IsNormal b → FitsSigned w64 a.seconds → FitsSigned w64 b.seconds → nanoseconds_of_fields a ≡ v → nanoseconds_of_fields b ≡ w → IsDuration (v +ℤ w) → FitsSigned w64 (a.seconds +ℤ b.seconds)
add-fits a b v w h k f g is_v is_w d =
    let p = times-second a.seconds in
    let q = times-second b.seconds in
    by_lt_z a.seconds (pos 0)
    (λ below. by_lt_z b.seconds (pos 0)
    (λ both. omega (arith, ints, h.negative below, k.negative both, d.at_least))
    (λ apart. omega (arith, ints)))
    (λ not_below. by_lt_z (pos 0) b.seconds
    (λ above. by_lt_z (pos 0) a.seconds
    (λ both. omega (arith, ints, h.positive both, k.positive above, d.at_most))
    (λ zero. omega (arith, ints)))
    (λ apart. omega (arith, ints)))

-- If a difference is a duration, its seconds fit in an i64, except if the seconds of the left side
-- are 0 and the nanoseconds are negative.
pub sub-fits-apart : (a b : Inside) (v w : ℤ) → IsNormal a → IsNormal b → FitsSigned w64 a.seconds → FitsSigned w64 b.seconds → nanoseconds_of_fields a ≡ v → nanoseconds_of_fields b ≡ w → IsDuration (v -ℤ w) → ¬ (a.seconds ≡ pos 0) → FitsSigned w64 (a.seconds -ℤ b.seconds)
sub-fits-apart a b v w h k f g is_v is_w d apart =
    let p = times-second a.seconds in
    let q = times-second b.seconds in
    let low = d.at_least in
    let high = d.at_most in
    grind (arith, ints)

pub sub-fits-over : (a b : Inside) (v w : ℤ) → IsNormal a → IsNormal b → FitsSigned w64 a.seconds → FitsSigned w64 b.seconds → nanoseconds_of_fields a ≡ v → nanoseconds_of_fields b ≡ w → IsDuration (v -ℤ w) → pos 0 ≤ℤ (a.nanoseconds -ℤ b.nanoseconds) → FitsSigned w64 (a.seconds -ℤ b.seconds)
sub-fits-over a b v w h k f g is_v is_w d over =
    let p = times-second a.seconds in
    let q = times-second b.seconds in
    let low = d.at_least in
    let high = d.at_most in
    grind (arith, ints)

-- If the seconds of the left side are 0 and the seconds of the difference don't fit, the seconds of
-- the right side are `i64::MIN`.
pub sub-overflow : (s t : ℤ) → FitsSigned w64 t → s ≡ pos 0 → ¬ FitsSigned w64 (s -ℤ t) → t ≡ negsuc 9_223_372_036_854_775_807
sub-overflow s t f is_zero not_fits =
    by_lt_z (negsuc 9_223_372_036_854_775_807) t
    (λ above. absurd (not_fits (omega (arith, ints))))
    (λ at_most. omega (arith, ints))

-- Sums and differences of normal fields need a carry of at most one second: if the nanoseconds are
-- a second or more, they don't have the opposite sign of the seconds.
pub CanCarry-sum : (a b : Inside) → IsNormal a → IsNormal b → CanCarry (a.seconds +ℤ b.seconds) (a.nanoseconds +ℤ b.nanoseconds)
CanCarry-sum a b h k = record {
  above = omega (arith, ints, h.above, k.above);
  below = omega (arith, ints, h.below, k.below);
  over = λ over.
      let left : pos 0 ≤ℤ a.seconds = by_lt_z a.seconds (pos 0) (λ lt. absurd (omega (arith, ints, h.negative lt, k.below))) (λ ge. ge) in
      let right : pos 0 ≤ℤ b.seconds = by_lt_z b.seconds (pos 0) (λ lt. absurd (omega (arith, ints, k.negative lt, h.below))) (λ ge. ge) in
      omega (arith, ints);
  under = λ under.
      let left : a.seconds ≤ℤ pos 0 = by_lt_z (pos 0) a.seconds (λ gt. absurd (omega (arith, ints, h.positive gt, k.above))) (λ le. le) in
      let right : b.seconds ≤ℤ pos 0 = by_lt_z (pos 0) b.seconds (λ gt. absurd (omega (arith, ints, k.positive gt, h.above))) (λ le. le) in
      omega (arith, ints);
}

pub CanCarry-difference : (a b : Inside) → IsNormal a → IsNormal b → CanCarry (a.seconds -ℤ b.seconds) (a.nanoseconds -ℤ b.nanoseconds)
CanCarry-difference a b h k = record {
  above = omega (arith, ints, h.above, k.below);
  below = omega (arith, ints, h.below, k.above);
  over = λ over.
      let left : pos 0 ≤ℤ a.seconds = by_lt_z a.seconds (pos 0) (λ lt. absurd (omega (arith, ints, h.negative lt, k.above))) (λ ge. ge) in
      let right : b.seconds ≤ℤ pos 0 = by_lt_z (pos 0) b.seconds (λ gt. absurd (omega (arith, ints, k.positive gt, h.below))) (λ le. le) in
      omega (arith, ints);
  under = λ under.
      let left : a.seconds ≤ℤ pos 0 = by_lt_z (pos 0) a.seconds (λ gt. absurd (omega (arith, ints, h.positive gt, k.below))) (λ le. le) in
      let right : pos 0 ≤ℤ b.seconds = by_lt_z b.seconds (pos 0) (λ lt. absurd (omega (arith, ints, k.negative lt, h.above))) (λ ge. ge) in
      omega (arith, ints);
}

-- The sum and the difference of two numbers, from the sums and differences of their fields.
pub sum-fields : (a b : Inside) (v w : ℤ) → nanoseconds_of_fields a ≡ v → nanoseconds_of_fields b ≡ w → (a.seconds +ℤ b.seconds) *ℤ pos second +ℤ (a.nanoseconds +ℤ b.nanoseconds) ≡ v +ℤ w
sum-fields a b v w is_v is_w = omega (arith, ints)

pub difference-fields : (a b : Inside) (v w : ℤ) → nanoseconds_of_fields a ≡ v → nanoseconds_of_fields b ≡ w → (a.seconds -ℤ b.seconds) *ℤ pos second +ℤ (a.nanoseconds -ℤ b.nanoseconds) ≡ v -ℤ w
difference-fields a b v w is_v is_w = omega (arith, ints)

-- The fields of the opposite number.
pub IsNormal-opposite : (a : Inside) → IsNormal a → IsNormal (record { seconds = neg_ℤ a.seconds; nanoseconds = neg_ℤ a.nanoseconds })
IsNormal-opposite a h = record {
  above = omega (arith, ints, h.below);
  below = omega (arith, ints, h.above);
  positive = λ s. omega (arith, ints, h.negative (omega (arith, ints)));
  negative = λ s. omega (arith, ints, h.positive (omega (arith, ints)));
}

pub opposite-fields : (a : Inside) (v : ℤ) → nanoseconds_of_fields a ≡ v → neg_ℤ a.seconds *ℤ pos second +ℤ neg_ℤ a.nanoseconds ≡ neg_ℤ v
opposite-fields a v is_v =
    let s = times-second a.seconds in
    let t = times-second (neg_ℤ a.seconds) in
    omega (arith, ints)

-- What the test of a sign says.
pub is-below : (z : ℤ) → lt_z z (pos 0) ≡ true → z <ℤ pos 0
is-below z e = omega (arith, ints)

pub is-not-below : (z : ℤ) → lt_z z (pos 0) ≡ false → pos 0 ≤ℤ z
is-not-below z e = omega (arith, ints)

-- A difference of nanoseconds fits in an i32.
pub difference-fits : (a b : Inside) → IsNormal a → IsNormal b → FitsSigned w32 (a.nanoseconds -ℤ b.nanoseconds)
difference-fits a b h k = omega (arith, ints, h.above, h.below, k.above, k.below)

-- One second moves from the seconds to negative nanoseconds, where the seconds are one above
-- `i64::MAX`.
pub record IsBorrowed (a b : Inside) (v w : ℤ) : Type 0 where
  pub fits : FitsSigned w32 ((a.nanoseconds -ℤ b.nanoseconds) +ℤ pos second)
  pub normal : IsNormal (record { seconds = pos 9_223_372_036_854_775_807; nanoseconds = (a.nanoseconds -ℤ b.nanoseconds) +ℤ pos second })
  pub duration : IsDuration (v -ℤ w)
  pub whole : pos 9_223_372_036_854_775_807 *ℤ pos second +ℤ ((a.nanoseconds -ℤ b.nanoseconds) +ℤ pos second) ≡ v -ℤ w

pub borrowed : (a b : Inside) (v w : ℤ) → IsNormal a → IsNormal b → nanoseconds_of_fields a ≡ v → nanoseconds_of_fields b ≡ w
    → a.seconds ≡ pos 0 → b.seconds ≡ negsuc 9_223_372_036_854_775_807 → (a.nanoseconds -ℤ b.nanoseconds) <ℤ pos 0 → IsBorrowed a b v w
borrowed a b v w h k is_v is_w left right below =
    let left_fields : pos 0 *ℤ pos second +ℤ a.nanoseconds ≡ v = ap (λ s. s *ℤ pos second +ℤ a.nanoseconds) (sym left) ∙ is_v in
    let right_fields : negsuc 9_223_372_036_854_775_807 *ℤ pos second +ℤ b.nanoseconds ≡ w = ap (λ s. s *ℤ pos second +ℤ b.nanoseconds) (sym right) ∙ is_w in
    let more = h.above in
    let most = k.negative (omega (arith, ints)) in
    record {
      fits = omega (arith, ints);
      normal = record { above = omega (arith, ints); below = omega (arith, ints); positive = λ s. omega (arith, ints); negative = λ s. omega (arith, ints) };
      duration = record { at_least = omega (arith, ints); at_most = omega (arith, ints) };
      whole = omega (arith, ints);
    }
