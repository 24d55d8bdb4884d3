-- The results of `clamped_date` inside the range and outside it.
use Rattle.std.proofs.Common.{◌≡◌, ◌∙◌, ap, ℕ, ℤ, pos, negsuc, ◌≤ℤ◌, ◌<ℤ◌, arith, Option, Some, None, SomeIff, IfSome}
use Rattle.std.proofs.lemmas.Int.{ints, clamps, by_lt_z}
use Rattle.cal_span.specs.SignedDuration.{whole_days}
use Rattle.cal_date.specs.Date.{last_day, IsDate}
use Rattle.cal_date.specs.Arithmetic.{IsDateNumber, clamped_date}

pub clamped_date-inside : (z : ℤ) → IsDateNumber z → pos (clamped_date z) ≡ z
clamped_date-inside z h =
    let low = h.not_before in
    let high = h.not_after in
    omega (arith, ints, clamps)

pub clamped_date-before : (z : ℤ) → z ≤ℤ pos last_day → ¬ IsDateNumber z → clamped_date z ≡ 0
clamped_date-before z high outside =
    by_lt_z z (pos 0)
    (λ before. omega (arith, ints, clamps))
    (λ low. absurd (outside (record { not_before = low; not_after = high })))

pub clamped_date-after : (z : ℤ) → pos 0 ≤ℤ z → ¬ IsDateNumber z → clamped_date z ≡ last_day
clamped_date-after z low outside =
    by_lt_z (pos last_day) z
    (λ after. omega (arith, ints, clamps))
    (λ high. absurd (outside (record { not_before = low; not_after = high })))

-- The day with the number of day n is day n.
pub number-clamped_date : (n : ℕ) (z : ℤ) → IsDate n → z ≡ pos n → IsDateNumber z × (n ≡ clamped_date z)
number-clamped_date n z h e = (record { not_before = omega (arith, ints); not_after = omega (arith, ints) }, omega (arith, ints, clamps))

-- The whole days of a duration don't have its opposite sign.
pub whole_days-negative : (v : ℤ) → v <ℤ pos 0 → whole_days v ≤ℤ pos 0
whole_days-negative (pos i) h = absurd (omega (arith, ints))
whole_days-negative (negsuc i) h = omega (arith, ints)

pub whole_days-not_negative : (v : ℤ) → pos 0 ≤ℤ v → pos 0 ≤ℤ whole_days v
whole_days-not_negative (pos i) h = omega (arith, ints)
whole_days-not_negative (negsuc i) h = absurd (omega (arith, ints))

-- A day that is found has the number.
pub found_number : (z : ℤ) (r : Option ℕ) → SomeIff r (IsDateNumber z) (clamped_date z) → IfSome r (λ n. pos n ≡ z)
found_number z None h = tt
found_number z (Some n) h = ap pos h.1 ∙ clamped_date-inside z h.0
