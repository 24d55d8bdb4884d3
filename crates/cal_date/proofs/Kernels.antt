-- The two multiplications of the kernel give the right century and year on each day of the range.
use Rattle.std.proofs.Common.{◌≡◌, ◌≢◌, ℕ, ◌+◌, ◌-◌, ◌*◌, ◌/◌, ◌%◌, ◌^◌, ◌<◌, ◌≤◌, ◌∙◌, inl, inr, sym, ap, subst, arith, Bool, true, false, ℤ, pos, ◌+ℤ◌, ◌-ℤ◌, unsigned_abs}
use Rattle.std.specs.Prelude.{if◌then◌else◌, not, ◌||◌, ◌&&◌, ◌==◌}
use Rattle.std.proofs.lemmas.Bool.{cases_lt}
use Rattle.std.proofs.lemmas.Int.{ints}
use Rattle.std.proofs.lemmas.Bool.Decides.{nat_tests}
use Rattle.cal_units.specs.Lengths.{is_leap_year}
use Rattle.cal_date.specs.Date.{first_year, first_julian_day, year_at, ordinal_at, julian_day_at, IsDate, HasOrdinalDate, HasJulianDay}
use Rattle.cal_date.specs.CountLaws.{years_before}
use Rattle.cal_date.specs.ClosedForms.{shifted_day, century_at, century_part_at, julian_at, years_at, year_part_at, kernel_of_shifted_day, kernel_of, HasKernel, is_julian_year, year_of_kernel, ordinal_of_kernel, is_leap_by_kernel}
use Rattle.cal_date.specs.Arithmetic.{IsDateNumber}
use Rattle.cal_date.specs.declared.kernel.JulianKernel.{JulianKernel}
use Rattle.cal_date.proofs.Dates.{stands, IsInRange, in_range}
use Rattle.cal_date.proofs.JulianDays.{IsAfterYears, after_years, number_at}

-- ---- the first multiplication, by a factor that is 20477 / 146097 less than 2 ^ 49 / 146097
-- A day that is r quarter days of 146097 past c centuries is in century c. If r is 146097, the
-- quotient is one more.
century_at-rest : (n c r : ℕ) → 0 < r → r ≤ 146097 → 4 * n ≡ 146097 * c + r → n * 20477 < 2 ^ 47 → century_at n ≡ c
century_at-rest n c r some most day small = omega arith

-- The part is at most the cut on the first 365 days of a century, which have at most 1459 quarter
-- days. It is above the cut from 1461 quarter days on.
part_below_cut : (n c r : ℕ) → 0 < r → r < 1460 → 4 * n ≡ 146097 * c + r → n * 20477 < 2 ^ 47 → century_part_at n ≤ 42920275
part_below_cut n c r some most day small = omega arith

part_above_cut : (n c r : ℕ) → 1460 < r → r ≤ 146097 → 4 * n ≡ 146097 * c + r → n * 20477 < 2 ^ 47 → 42920275 < century_part_at n
part_above_cut n c r some most day small = omega arith

-- If 146097 doesn't divide the day, the century is the quotient.
pub century_at-is : (n : ℕ) → n * 20477 < 2 ^ 47 → n % 146097 ≢ 0 → century_at n ≡ 4 * n / 146097
century_at-is n small other = century_at-rest n (4 * n / 146097) (4 * n % 146097) (omega arith) (omega arith) (omega arith) small

-- If 146097 divides the day, the century is one less than the quotient.
pub century_at-one_low : (n : ℕ) → 0 < n → n * 20477 < 2 ^ 47 → n % 146097 ≡ 0 → century_at n + 1 ≡ 4 * n / 146097
century_at-one_low n some small divides =
    let low : century_at n ≡ 4 * n / 146097 - 1 = century_at-rest n (4 * n / 146097 - 1) 146097 (omega arith) (omega arith) (omega arith) small in
    omega arith

-- The Julian number is the same in both cases.
julian_at-is : (n : ℕ) → 0 < n → n * 20477 < 2 ^ 47 → julian_at n ≡ n - 4 * n / 146097 / 4 + 4 * n / 146097
julian_at-is n some small =
    elim (cases_lt 0 (n % 146097)) [
      | inl other ↦ let is = century_at-is n small (omega arith) in omega arith
      | inr divides ↦ let is = century_at-one_low n some small (omega arith) in omega arith
    ]

-- ---- the second multiplication, by a factor that is 632 / 1461 more than 2 ^ 42 / 1461
-- A day that is s quarter days past y years is in year y, after s / 4 days of it.
years_at-rest : (j y s : ℕ) → s < 1461 → 4 * j ≡ 1461 * y + s → j * 632 < 2 ^ 40 → years_at j ≡ y
years_at-rest j y s most day small = omega arith

year_part_at-rest : (j y s : ℕ) → s < 1461 → 4 * j ≡ 1461 * y + s → j * 632 < 2 ^ 40 → 592 ≤ j → year_part_at j * 1461 / 2 ^ 34 ≡ s / 4
year_part_at-rest j y s most day small large = omega arith

-- ---- the days of the range
-- The first year of the range in the kernel's count of years, and its first day.
abbrev first_shifted_year : ℕ
first_shifted_year = unsigned_abs (first_year +ℤ pos 2379600)

abbrev first_shifted_day : ℕ
first_shifted_day = shifted_day first_julian_day

-- Day n of the kernel's count has this ordinal in this year of the count.
record Stands (y o n : ℕ) : Type 0 where
  k : ℕ
  after : IsAfterYears k o (n - first_shifted_day)
  year_is : y ≡ k + first_shifted_year
  late : first_shifted_day ≤ n
  early : n < 1300000000

right_century : (y o n : ℕ) → Stands y o n → 4 * n / 146097 ≡ y / 100
right_century y o n at = omega arith

right_year : (y o n : ℕ) → Stands y o n → (1461 * y ≤ 4 * julian_at n) × (4 * julian_at n < 1461 * y + 1461)
right_year y o n at =
    let century = right_century y o n at in
    let julian = julian_at-is n (omega arith) (omega arith) in
    (omega arith, omega arith)

years_at-is : (y o n : ℕ) → Stands y o n → years_at (julian_at n) ≡ y
years_at-is y o n at =
    let year = right_year y o n at in
    let julian = julian_at-is n (omega arith) (omega arith) in
    years_at-rest (julian_at n) y (4 * julian_at n - 1461 * y) (omega arith) (omega arith) (omega arith)

year_part_at-is : (y o n : ℕ) → Stands y o n → year_part_at (julian_at n) * 1461 / 2 ^ 34 ≡ (4 * julian_at n - 1461 * y) / 4
year_part_at-is y o n at =
    let year = right_year y o n at in
    let julian = julian_at-is n (omega arith) (omega arith) in
    year_part_at-rest (julian_at n) y (4 * julian_at n - 1461 * y) (omega arith) (omega arith) (omega arith) (omega arith)

-- After the first year of a century the part is above the cut.
later_year : (y o n : ℕ) → Stands y o n → y % 100 ≢ 0 → is_julian_year (kernel_of_shifted_day n) ≡ true
later_year y o n at later =
    let century = right_century y o n at in
    let above = part_above_cut n (4 * n / 146097) (4 * n % 146097) (omega arith) (omega arith) (omega arith) (omega arith) in
    grind (arith, nat_tests)

-- In the first year of a century that 4 doesn't divide, the part is not above the cut.
first_year_of_century : (y o n : ℕ) → Stands y o n → y % 100 ≡ 0 → y % 400 ≢ 0 → is_julian_year (kernel_of_shifted_day n) ≡ false
first_year_of_century y o n at first other =
    let century = right_century y o n at in
    let is = century_at-is n (omega arith) (omega arith) in
    let below = part_below_cut n (4 * n / 146097) (4 * n % 146097) (omega arith) (omega arith) (omega arith) (omega arith) in
    let part : century_at n % 4 ≢ 0 = omega arith in
    grind (arith, nat_tests)

-- In a year that 400 divides, 4 divides the century. The exception is the first day: the century is
-- one too low, and the part is above the cut.
first_year_of_four_centuries : (y o n : ℕ) → Stands y o n → y % 400 ≡ 0 → is_julian_year (kernel_of_shifted_day n) ≡ true
first_year_of_four_centuries y o n at first =
    let century = right_century y o n at in
    elim (cases_lt 0 (n % 146097)) [
      | inl other ↦
          let is = century_at-is n (omega arith) (omega arith) in
          let whole : century_at n % 4 ≡ 0 = omega arith in
          grind (arith, nat_tests)
      | inr divides ↦
          let above = part_above_cut n (4 * n / 146097 - 1) 146097 (omega arith) (omega arith) (omega arith) (omega arith) in
          grind (arith, nat_tests)
    ]

abbrev is_julian : ℕ → Bool
is_julian y = not (y % 100 == 0) || (y % 400 == 0)

is_julian_year-is : (y o n : ℕ) → Stands y o n → is_julian_year (kernel_of_shifted_day n) ≡ is_julian y
is_julian_year-is y o n at =
    elim (cases_lt 0 (y % 100)) [
      | inl later ↦ later_year y o n at (omega arith) ∙ grind (arith, nat_tests)
      | inr first ↦ elim (cases_lt 0 (y % 400)) [
        | inl other ↦ first_year_of_century y o n at (omega arith) (omega arith) ∙ grind (arith, nat_tests)
        | inr whole ↦ first_year_of_four_centuries y o n at (omega arith) ∙ grind (arith, nat_tests)
      ]
    ]

-- The ordinal is the number of days of the year that have passed, plus 1 in a year that is as long
-- as in the Julian count.
ordinal_by_days : (y o n : ℕ) → Stands y o n → (4 * julian_at n - 1461 * y) / 4 + (if is_julian y then 1 else 0) ≡ o
ordinal_by_days y o n at =
    let century = right_century y o n at in
    let julian = julian_at-is n (omega arith) (omega arith) in
    grind (arith, nat_tests)

ordinal_of_kernel-is : (y o n : ℕ) → Stands y o n → ordinal_of_kernel (kernel_of_shifted_day n) ≡ o
ordinal_of_kernel-is y o n at =
    rw (is_julian_year-is y o n at) (omega (arith, year_part_at-is y o n at, ordinal_by_days y o n at))

-- Day n of the range has this year and this ordinal in the kernel's count.
stands_in_range : (n : ℕ) → IsDate n → Stands (unsigned_abs (year_at n +ℤ pos 2379600)) (ordinal_at n) (shifted_day (julian_day_at n))
stands_in_range n h =
    let late = (stands n).year in
    let same : n ≡ shifted_day (julian_day_at n) - first_shifted_day = omega (arith, ints) in
    record {
      k = years_before (year_at n);
      after = subst (IsAfterYears (years_before (year_at n)) (ordinal_at n)) same (after_years n);
      year_is = omega (arith, ints);
      late = omega (arith, ints);
      early = omega (arith, ints);
    }

-- The kernel of a day gives its year, ordinal and leap mark.
pub HasOrdinalDate-kernel : (n : ℕ) → IsDate n → HasOrdinalDate (year_of_kernel (kernel_of (julian_day_at n))) (ordinal_of_kernel (kernel_of (julian_day_at n))) n
unfolding kernel_of
HasOrdinalDate-kernel n h =
    let at = stands_in_range n h in
    let late = (stands n).year in
    let years = years_at-is (unsigned_abs (year_at n +ℤ pos 2379600)) (ordinal_at n) (shifted_day (julian_day_at n)) at in
    (omega (arith, ints), sym (ordinal_of_kernel-is (unsigned_abs (year_at n +ℤ pos 2379600)) (ordinal_at n) (shifted_day (julian_day_at n)) at))

-- A year is a leap year if and only if its count by the kernel says so.
leap_by_count : (y : ℤ) (c : ℕ) → pos c ≡ y +ℤ pos 2379600 → ((c % 4 == 0) && is_julian c) ≡ is_leap_year y
leap_by_count y c e = grind (arith, ints, nat_tests)

is_leap_by_kernel-is : (n : ℕ) → IsDate n → is_leap_by_kernel (kernel_of (julian_day_at n)) ≡ is_leap_year (year_at n)
unfolding kernel_of
is_leap_by_kernel-is n h =
    let c = unsigned_abs (year_at n +ℤ pos 2379600) in
    let at = stands_in_range n h in
    let late = (stands n).year in
    let years = years_at-is c (ordinal_at n) (shifted_day (julian_day_at n)) at in
    rw (is_julian_year-is c (ordinal_at n) (shifted_day (julian_day_at n)) at, years) (leap_by_count (year_at n) c (omega (arith, ints)))

-- If the century of day n of the kernel's count is one too low, the Julian number, the year, the
-- ordinal and the leap mark are right all the same.
pub record IsOneLow (d n : ℕ) : Type 0 where
  pub century : century_at n + 1 ≡ 4 * n / 146097
  pub julian : julian_at n ≡ n - 4 * n / 146097 / 4 + 4 * n / 146097
  pub date : HasOrdinalDate (year_of_kernel (kernel_of_shifted_day n)) (ordinal_of_kernel (kernel_of_shifted_day n)) d
  pub leap : is_leap_by_kernel (kernel_of_shifted_day n) ≡ is_leap_year (year_at d)

pub century_one_low : (d : ℕ) → IsDate d → shifted_day (julian_day_at d) % 146097 ≡ 0 → IsOneLow d (shifted_day (julian_day_at d))
unfolding kernel_of
century_one_low d h divides =
    let n = shifted_day (julian_day_at d) in
    record {
      century = century_at-one_low n (omega (arith, ints)) (omega (arith, ints)) divides;
      julian = julian_at-is n (omega (arith, ints)) (omega (arith, ints));
      date = HasOrdinalDate-kernel d h;
      leap = is_leap_by_kernel-is d h;
    }

-- A day of the range with a kernel has the year and the ordinal of this kernel.
pub in_range-kernel : (k : JulianKernel) (n : ℕ) → IsDate n → HasKernel k n → IsInRange (year_of_kernel k) (ordinal_of_kernel k) n
in_range-kernel k n h has =
    in_range n (year_of_kernel k) (ordinal_of_kernel k) h (subst (λ k. HasOrdinalDate (year_of_kernel k) (ordinal_of_kernel k) n) has (HasOrdinalDate-kernel n h))

-- The leap mark of a kernel is right for its year.
pub leap_by_kernel-is : (k : JulianKernel) (n : ℕ) → IsDate n → HasKernel k n → is_leap_by_kernel k ≡ is_leap_year (year_of_kernel k)
leap_by_kernel-is k n h has =
    subst (λ k. is_leap_by_kernel k ≡ is_leap_year (year_of_kernel k)) has (is_leap_by_kernel-is n h ∙ ap is_leap_year (HasOrdinalDate-kernel n h).0)

-- The day of the range with a Julian day, and its kernel.
pub record HasJulianKernel (j : ℤ) (k : JulianKernel) (n : ℕ) : Type 0 where
  pub date : IsDate n
  pub has_day : HasJulianDay j n
  pub has_kernel : HasKernel k n

pub has_julian_kernel : (j : ℤ) (k : JulianKernel) → IsDateNumber (j -ℤ first_julian_day) → k ≡ kernel_of j → HasJulianKernel j k (number_at j)
has_julian_kernel j k h is =
    let low = h.not_before in
    let high = h.not_after in
    let day : HasJulianDay j (number_at j) = omega (arith, ints) in
    record { date = omega (arith, ints); has_day = day; has_kernel = ap kernel_of day ∙ sym is }

-- The kernel of a Julian day gives the date of its day.
pub date_by_kernel : (j : ℤ) (n : ℕ) → IsDate n → HasJulianDay j n → HasOrdinalDate (year_of_kernel (kernel_of j)) (ordinal_of_kernel (kernel_of j)) n
date_by_kernel j n h day = subst (λ j. HasOrdinalDate (year_of_kernel (kernel_of j)) (ordinal_of_kernel (kernel_of j)) n) day (HasOrdinalDate-kernel n h)
