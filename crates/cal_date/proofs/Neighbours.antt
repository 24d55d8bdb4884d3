-- The days before and after a date of the range, from its fields.
use Rattle.std.proofs.Common.{◌≡◌, inl, inr, refl, sym, ap, ◌∙◌, ℕ, ◌+◌, ◌-◌, ◌<◌, ◌≤◌, nat_le, arith, ℤ}
use Rattle.std.proofs.lemmas.Bool.{cases_Bool}
use Rattle.std.proofs.lemmas.Bool.Decides.{nat_tests}
use mir.Val.{bool_byte}
use Rattle.std.proofs.lemmas.Int.{ints}
use Rattle.cal_units.specs.Lengths.{is_leap_year, days_in_year}
use Rattle.cal_date.specs.Date.{last_day, year_at, ordinal_at, IsOrdinal, IsDate, HasOrdinalDate}
use Rattle.cal_date.specs.CountLaws.{days_before, in_year, year_start-days_before}
use Rattle.cal_date.specs.DateLimits.{MIN-number, MAX-number}
use Rattle.cal_date.specs.PackedDate.{leap_mark}
use Rattle.cal_date.proofs.Dates.{stands, in_range, year-most, ordinal-most, number_of_parts, ordinal_of_date, IsDate-ordinal_number}

-- A year has 365 days or more, and no day before its day 365 is the last day of the range.
pub before_year_end : (n : ℕ) → ordinal_at n < 365 → ordinal_at n < days_in_year (year_at n)
before_year_end n early = grind (arith, nat_tests)

pub early_in_year : (n : ℕ) → IsDate n → ordinal_at n < 365 → n < last_day
early_in_year n h early =
    let at = in_range n (year_at n) (ordinal_at n) h (refl, refl) in
    let less = before_year_end n early in
    let next = IsDate-ordinal_number (year_at n) (ordinal_at n + 1) at.year (omega arith, omega arith) in
    omega (arith, at.number_is, at.ordinal.0)

pub ruleset next_days = (before_year_end, early_in_year, MAX-number, ints, nat_tests)

-- The first day of the range has the ordinal 1.
pub not_first_day : (n : ℕ) → 1 < ordinal_at n → 0 < n
not_first_day n past = omega (arith, (stands n).number_is)

pub within_year : (n : ℕ) → IsDate n → IsOrdinal (year_at n) (ordinal_at n)
within_year n h = (in_range n (year_at n) (ordinal_at n) h (refl, refl)).ordinal

pub ruleset previous_days = (not_first_day, within_year, MIN-number, ints, nat_tests)

-- The leap mark of a date, from its low ten bits.
pub low_bits-leap : (n low : ℕ) → IsDate n → low ≡ leap_mark (year_at n) + ordinal_at n → nat_le 512 low ≡ is_leap_year (year_at n)
low_bits-leap n low h bits =
    let most = ordinal-most n in
    let least = (stands n).ordinal.0 in
    grind (arith, nat_tests)

pub year_length : (y : ℤ) → 365 + bool_byte (is_leap_year y) ≡ days_in_year y
year_length y = elim (cases_Bool (is_leap_year y)) [ inl leap ↦ rw leap refl | inr common ↦ rw common refl ]

-- The distance of two days of one year is the distance of their ordinals.
pub same_year : (m n : ℕ) → year_at m ≡ year_at n → m + ordinal_at n ≡ n + ordinal_at m
same_year m n e =
    let before : days_before (year_at m) ≡ days_before (year_at n) = ap days_before e in
    let first = stands m in
    let second = stands n in
    omega (arith, first.number_is, second.number_is, first.ordinal.0, second.ordinal.0)

-- A day at the distance of an ordinal of the year has this ordinal.
pub as_far : (n k p : ℕ) → 1 ≤ p → p ≤ days_in_year (year_at n) → k + ordinal_at n ≡ n + p → HasOrdinalDate (year_at n) p k
as_far n k p low high e =
    let at = stands n in
    let here = in_year (days_before (year_at n)) (year_at n) (p - 1) (year_start-days_before (year_at n) at.year) (omega arith) in
    let number : days_before (year_at n) + (p - 1) ≡ k = omega (arith, at.number_is, at.ordinal.0) in
    let ordinal : p - 1 + 1 ≡ p = omega arith in
    (ap year_at (sym number) ∙ here.0, ap ordinal_at (sym number) ∙ here.1 ∙ ordinal)

pub ruleset parts_of_years = (within_year, ints, nat_tests)

pub ruleset places = (number_of_parts, ordinal_of_date, year-most, ordinal-most, year_length, ints, nat_tests)
