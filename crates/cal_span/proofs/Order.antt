-- Comparing the seconds, and then the nanoseconds, compares the numbers.
use Rattle.std.proofs.Common.{◌≡◌, ℤ, ◌<ℤ◌, arith, sym, Less, Equal, Greater}
use Rattle.std.specs.Ordering.{int_cmp, ordering_then}
use Rattle.std.proofs.lemmas.Int.{ints, by_lt_z}
use Rattle.cal_span.specs.Fields.{nanoseconds_of_fields, IsNormal}
use Rattle.cal_span.specs.FieldsLaws.{times-second}
use Rattle.cal_span.specs.declared.signed_duration.SignedDuration.TheInside.{Inside}

-- The results of `int_cmp`.
int_cmp-less : (x y : ℤ) → x <ℤ y → int_cmp x y ≡ Less
int_cmp-less x y h = grind (arith, ints)

int_cmp-greater : (x y : ℤ) → y <ℤ x → int_cmp x y ≡ Greater
int_cmp-greater x y h = grind (arith, ints)

int_cmp-equal : (x y : ℤ) → x ≡ y → int_cmp x y ≡ Equal
int_cmp-equal x y h = grind (arith, ints)

-- Fewer seconds are fewer nanoseconds.
fewer : (a b : Inside) → IsNormal a → IsNormal b → a.seconds <ℤ b.seconds → nanoseconds_of_fields a <ℤ nanoseconds_of_fields b
fewer a b h k lt =
    let p = times-second a.seconds in
    let q = times-second b.seconds in
    grind (arith, ints)

-- If the seconds are equal, the nanoseconds decide.
then_fewer : (a b : Inside) → a.seconds ≡ b.seconds → a.nanoseconds <ℤ b.nanoseconds → nanoseconds_of_fields a <ℤ nanoseconds_of_fields b
then_fewer a b e lt =
    let p = times-second a.seconds in
    let q = times-second b.seconds in
    omega (arith, ints)

pub int_cmp-fields : (a b : Inside) → IsNormal a → IsNormal b → ordering_then (int_cmp a.seconds b.seconds) (int_cmp a.nanoseconds b.nanoseconds) ≡ int_cmp (nanoseconds_of_fields a) (nanoseconds_of_fields b)
int_cmp-fields a b h k =
    by_lt_z a.seconds b.seconds
    (λ lt. simp (int_cmp-less a.seconds b.seconds lt, int_cmp-less (nanoseconds_of_fields a) (nanoseconds_of_fields b) (fewer a b h k lt)))
    (λ ge. by_lt_z b.seconds a.seconds
    (λ gt. simp (int_cmp-greater a.seconds b.seconds gt, int_cmp-greater (nanoseconds_of_fields a) (nanoseconds_of_fields b) (fewer b a k h gt)))
    (λ le. let e : a.seconds ≡ b.seconds = omega (arith, ints) in
    by_lt_z a.nanoseconds b.nanoseconds
    (λ lt. simp (int_cmp-equal a.seconds b.seconds e, int_cmp-less a.nanoseconds b.nanoseconds lt, int_cmp-less (nanoseconds_of_fields a) (nanoseconds_of_fields b) (then_fewer a b e lt)))
    (λ ge'. by_lt_z b.nanoseconds a.nanoseconds
    (λ gt. simp (int_cmp-equal a.seconds b.seconds e, int_cmp-greater a.nanoseconds b.nanoseconds gt, int_cmp-greater (nanoseconds_of_fields a) (nanoseconds_of_fields b) (then_fewer b a (sym e) gt)))
    (λ le'. let f : a.nanoseconds ≡ b.nanoseconds = omega (arith, ints) in
    let same : nanoseconds_of_fields a ≡ nanoseconds_of_fields b = cc in
    simp (int_cmp-equal a.seconds b.seconds e, int_cmp-equal a.nanoseconds b.nanoseconds f, int_cmp-equal (nanoseconds_of_fields a) (nanoseconds_of_fields b) same)))))
