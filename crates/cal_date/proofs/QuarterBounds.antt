-- The table of the bounds of months, by quarters.
use Rattle.std.proofs.Common.{◌≡◌, ℕ, List, ◌+◌, ◌-◌, ◌*◌, ◌/◌, ◌%◌, ◌<◌, [], ◌∷◌, slice_index_or, arith, ℤ, Bool, true, false}
use Rattle.std.proofs.lemmas.Bool.Decides.{nat_tests}
use mir.Val.{bool_byte}
use Rattle.cal_units.specs.Lengths.{is_leap_year, days_in_month}
use Rattle.cal_date.specs.CountLaws.{days_of_months}
use Rattle.cal_date.specs.DateLimits.{months_in_range}
use Rattle.cal_date.specs.PackedDate.{leap_mark}

abbrev pub bounds : List (List ℕ)
bounds =
    (0 ∷ 512 ∷ []) ∷ (31 ∷ 543 ∷ []) ∷ (59 ∷ 572 ∷ []) ∷ (90 ∷ 603 ∷ []) ∷ (90 ∷ 603 ∷ []) ∷ (120 ∷ 633 ∷ []) ∷ (151 ∷ 664 ∷ []) ∷ (181 ∷ 694 ∷ [])
    ∷ (181 ∷ 694 ∷ []) ∷ (212 ∷ 725 ∷ []) ∷ (243 ∷ 756 ∷ []) ∷ (273 ∷ 786 ∷ []) ∷ (273 ∷ 786 ∷ []) ∷ (304 ∷ 817 ∷ []) ∷ (334 ∷ 847 ∷ []) ∷ (365 ∷ 878 ∷ []) ∷ []

pub bound-is : (y : ℤ) (b : ℕ) (leap : Bool) → leap ≡ is_leap_year y → b < 16 → slice_index_or (slice_index_or bounds b []) (bool_byte leap) 0 ≡ leap_mark y + days_of_months y (b - b / 4)
unfolding days_of_months days_in_month
bound-is y b true same low = grind (arith, nat_tests)
bound-is y b false same low = grind (arith, nat_tests)

-- A year has 2^32 parts, so a month has 4/3 of 2^28, and a few more, which are below 2^28 in all.
pub record IsPlace (n p b : ℕ) : Type 0 where
  pub year : p / 4294967296 ≡ n / 12
  pub months : b - b / 4 ≡ n % 12
  pub next : b + 1 - (b + 1) / 4 ≡ n % 12 + 1

pub place-is : (n p b : ℕ) → n < months_in_range → p ≡ n * 357913942 → b ≡ p % 4294967296 / 268435456 → IsPlace n p b
place-is n p b low e f =
    let year : p / 4294967296 ≡ n / 12 = omega (arith, e, low) in
    let bound : b ≡ n % 12 + n % 12 / 3 = omega (arith, e, f, low) in
    record { year = year; months = omega (arith, bound); next = omega (arith, bound) }
