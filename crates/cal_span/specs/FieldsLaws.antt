-- Laws of the model of a duration: numbers and normal fields correspond to each other.
use Rattle.std.specs.Prelude.{◌≡◌, ℤ, pos, negsuc, ◌*ℤ◌, ◌≤ℤ◌, ◌*◌, int_rem}
use Rattle.std.proofs.Common.{arith}
use borrow.Author.Differences.{up, down}
use Rattle.std.proofs.lemmas.Int.{ints, quot-rem, rem_below}
use Rattle.cal_span.specs.SignedDuration.{second}
use Rattle.cal_span.specs.Fields.{nanoseconds_of_fields, IsNormal, fields_of}
use Rattle.cal_span.specs.declared.signed_duration.SignedDuration.TheInside.{Inside}

-- A remainder and its dividend don't have opposite signs.
pub rem-sign : (v : ℤ) → (pos 0 ≤ℤ v → pos 0 ≤ℤ int_rem v (pos second)) × (v ≤ℤ pos 0 → int_rem v (pos second) ≤ℤ pos 0)
rem-sign (pos n) = (λ h. omega (arith, ints), λ h. omega (arith, ints))
rem-sign (negsuc n) = (λ h. omega (arith, ints), λ h. omega (arith, ints))

-- The fields of a number are normal.
pub IsNormal-fields_of : (v : ℤ) → IsNormal (fields_of v)
IsNormal-fields_of v =
    let parts = quot-rem v (pos second) in
    let small = rem_below v (pos second) (omega arith) in
    let sign = rem-sign v in
    record { above = omega (arith, ints); below = omega (arith, ints); positive = λ h. omega (arith, ints); negative = λ h. omega (arith, ints) }

-- If seconds become nanoseconds, the positive part and the negative part are multiplied alike.
pub times-second : (s : ℤ) → (up (s *ℤ pos second) ≡ second * up s) × (down (s *ℤ pos second) ≡ second * down s)
times-second (pos n) = (omega (arith, ints), omega (arith, ints))
times-second (negsuc n) = (omega (arith, ints), omega (arith, ints))

-- A number has only one pair of normal fields.
one-pair : (a b : Inside) → IsNormal a → IsNormal b → nanoseconds_of_fields a ≡ nanoseconds_of_fields b → (a.seconds ≡ b.seconds) × (a.nanoseconds ≡ b.nanoseconds)
one-pair a b h k e =
    let p = times-second a.seconds in
    let q = times-second b.seconds in
    (grind (arith, ints), grind (arith, ints))

-- The number of the fields of v is v.
pub nanoseconds_of_fields-fields_of : (v : ℤ) → nanoseconds_of_fields (fields_of v) ≡ v
nanoseconds_of_fields-fields_of v = quot-rem v (pos second)

-- Normal fields are the fields of their number.
pub fields_of-nanoseconds_of_fields : (fields : Inside) → IsNormal fields → fields_of (nanoseconds_of_fields fields) ≡ fields
fields_of-nanoseconds_of_fields fields h =
    let v = nanoseconds_of_fields fields in
    let same = one-pair (fields_of v) fields (IsNormal-fields_of v) h (nanoseconds_of_fields-fields_of v) in
    λ i. record { seconds = same.0 i; nanoseconds = same.1 i }
