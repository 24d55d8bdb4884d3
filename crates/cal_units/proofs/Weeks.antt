-- The closed forms of the weekday of 1 January and of the number of Thursdays of a year.
use Rattle.std.proofs.Common.{◌≡◌, ℕ, zero, suc, ◌+◌, ◌-◌, ◌*◌, ◌/◌, ◌%◌, ◌<◌, ◌≤◌, ◌^◌, ◌≤ℤ◌, neg_ℤ, refl, sym, ap, ◌∙◌, arith, div-le_self, ℤ, pos, negsuc, ◌+ℤ◌, ◌-ℤ◌}
use Rattle.std.specs.Prelude.{if◌then◌else◌, ◌==◌, ◌||◌}
use Rattle.std.specs.Int.{int_div_euclid, int_rem_euclid}
use Rattle.std.proofs.lemmas.Int.{ints, int_rem_euclid_is}
use Rattle.std.proofs.lemmas.Bool.Decides.{nat_tests}
use Rattle.cal_units.specs.Lengths.{days_in_year}
use Rattle.cal_units.specs.Weeks.{weekday_after, first_weekday_after, first_weekday_before, first_weekday, thursdays, weeks_in_year}

-- Up to whole weeks, the number of days of the first n years of a cycle of 400 years.
abbrev pub shift : ℕ → ℕ
shift n = n + n / 4 - n / 100 + n / 400

-- The length of a year is 364 days plus its share of the shift.
pub shift-suc : (n : ℕ) → shift (suc n) + 364 ≡ shift n + days_in_year (pos (suc n))
shift-suc n = grind (arith, nat_tests)

pub first_weekday_after-is : (n : ℕ) → first_weekday_after n ≡ shift n % 7
unfolding first_weekday_after
first_weekday_after-is zero = refl
first_weekday_after-is (suc n) =
    let before : first_weekday_after n ≡ shift n % 7 = first_weekday_after-is n in
    let step = shift-suc n in
    omega arith

shift-whole_cycles : (k : ℕ) → shift (400 * k) % 7 ≡ 0
shift-whole_cycles k = omega arith

-- Two years have the same length if they differ by a multiple of 400.
pub days_in_year-later : (y : ℤ) (k n : ℕ) → pos n ≡ y +ℤ pos (400 * k) → days_in_year y ≡ days_in_year (pos n)
days_in_year-later (pos i) k n e =
    let later : n ≡ i + 400 * k = omega (arith, ints) in
    grind (arith, nat_tests)
days_in_year-later (negsuc i) k n e =
    let later : n + suc i ≡ 400 * k = omega (arith, ints) in
    grind (arith, nat_tests)

pub first_weekday_before-is : (k n m : ℕ) → n + m ≡ 400 * k → first_weekday_before m ≡ shift n % 7
unfolding first_weekday_before
first_weekday_before-is k n zero e =
    let whole : n ≡ 400 * k = omega arith in
    rw whole (sym (shift-whole_cycles k))
first_weekday_before-is k n (suc m) e =
    let after : first_weekday_before m ≡ shift (suc n) % 7 = first_weekday_before-is k (suc n) m (omega arith) in
    let step = shift-suc n in
    let same = days_in_year-later (pos 0 -ℤ pos m) k (suc n) (omega (arith, ints)) in
    rw same (omega arith)

-- The weekday of 1 January of y, from the shift of the year n + 1, k cycles of 400 years later.
pub first_weekday-is : (y : ℤ) (k n : ℕ) → pos n +ℤ pos 1 ≡ y +ℤ pos (400 * k) → first_weekday y ≡ shift n % 7
unfolding first_weekday
first_weekday-is (pos zero) k n e = first_weekday_before-is k n 1 (omega (arith, ints))
first_weekday-is (pos (suc i)) k n e =
    let on = first_weekday_after-is i in
    let later : n ≡ i + 400 * k = omega (arith, ints) in
    omega arith
first_weekday-is (negsuc i) k n e = first_weekday_before-is k n (i + 2) (omega (arith, ints))

-- Every year has a year from year 1 on that is some cycles of 400 years later.
pub later_year : (y : ℤ) → (k : ℕ) × (n : ℕ) × (pos n +ℤ pos 1 ≡ y +ℤ pos (400 * k))
later_year (pos n) = (1, n + 399, omega (arith, ints))
later_year (negsuc n) = (n + 1, 400 * (n + 1) - (n + 2), omega (arith, ints))

-- 1 January of the next year comes a year's length later, for every year.
pub first_weekday-next : (y : ℤ) → first_weekday (y +ℤ pos 1) ≡ weekday_after (first_weekday y) (days_in_year y)
first_weekday-next y =
    let (k, n, later) = later_year y in
    let here = first_weekday-is y k n later in
    let next = first_weekday-is (y +ℤ pos 1) k (suc n) (omega (arith, ints)) in
    let step = shift-suc n in
    let same = days_in_year-later y k (suc n) (omega (arith, ints)) in
    rw same (omega arith)

pub days_in_year-period : (y : ℤ) → days_in_year (y +ℤ pos 400) ≡ days_in_year y
days_in_year-period y =
    let (k, n, later) = later_year y in
    days_in_year-later (y +ℤ pos 400) k (n + 401) (omega (arith, ints)) ∙ sym (days_in_year-later y (k + 1) (n + 401) (omega (arith, ints)))

-- The weekdays of 1 January repeat after 400 years.
pub first_weekday-period : (y : ℤ) → first_weekday (y +ℤ pos 400) ≡ first_weekday y
first_weekday-period y =
    let (k, n, later) = later_year y in
    let here = first_weekday-is y k n later in
    let next = first_weekday-is (y +ℤ pos 400) k (n + 400) (omega (arith, ints)) in
    omega arith

-- The weeks of years repeat after 400 years.
pub weeks_in_year-period : (y : ℤ) → weeks_in_year (y +ℤ pos 400) ≡ weeks_in_year y
unfolding weeks_in_year
weeks_in_year-period y = rw (first_weekday-period y, days_in_year-period y)

thursdays-is : (first n : ℕ) → thursdays first n + (first + 10) / 7 ≡ (first + n + 10) / 7
unfolding thursdays
thursdays-is first zero = omega arith
thursdays-is first (suc n) =
    let before = thursdays-is first n in
    grind (arith, nat_tests)

first_weekday-below : (y : ℤ) → first_weekday y < 7
first_weekday-below y =
    let (k, n, later) = later_year y in
    let here = first_weekday-is y k n later in
    omega arith

-- A year has 53 weeks if and only if it begins on a Thursday or the next year begins on a Friday.
-- In the second case the year ends on a Thursday.
pub weeks_in_year-is : (y : ℤ) → weeks_in_year y ≡ (if (first_weekday y == 3) || (first_weekday (y +ℤ pos 1) == 4) then 53 else 52)
unfolding weeks_in_year
weeks_in_year-is y =
    let next = first_weekday-next y in
    let below = first_weekday-below y in
    let count = thursdays-is (first_weekday y) (days_in_year y) in
    grind (arith, nat_tests)

pub weeks_in_year-most : (y : ℤ) → weeks_in_year y ≤ 53
weeks_in_year-most y = let is = weeks_in_year-is y in grind (arith, nat_tests)

-- A year and the year 400 years later.
pub ruleset periods = (first_weekday-period, days_in_year-period, weeks_in_year-period)

-- The weeks of a year follow from the weekdays that it and the next year begin on.
pub ruleset weeks = (weeks_in_year-is, ints, nat_tests)

-- The number of leap years from 1 to z. If z is negative, minus the number from z + 1 to 0.
abbrev pub leap_days : ℤ → ℤ
leap_days z = int_div_euclid z (pos 4) -ℤ int_div_euclid z (pos 100) +ℤ int_div_euclid z (pos 400)

shift-of_cycles : (z : ℤ) (k n : ℕ) → pos n ≡ z +ℤ pos (400 * k) → (z +ℤ leap_days z) +ℤ pos (71 * k * 7) ≡ pos (shift n)
shift-of_cycles (pos i) k n e = omega (arith, ints)
shift-of_cycles (negsuc i) k n e = omega (arith, ints)

-- The weekday of 1 January by divisions that round down.
pub first_weekday-divided : (y : ℤ) → int_rem_euclid ((y -ℤ pos 1) +ℤ leap_days (y -ℤ pos 1)) (pos 7) ≡ pos (first_weekday y)
first_weekday-divided y =
    let (k, n, later) = later_year y in
    let e = first_weekday-is y k n later in
    int_rem_euclid_is ((y -ℤ pos 1) +ℤ leap_days (y -ℤ pos 1)) (pos 7) 7 (71 * k) (shift n) (omega arith) refl (shift-of_cycles (y -ℤ pos 1) k n (omega (arith, ints)))
    ∙ ap pos (sym e)

-- A quotient of a number is within 2 ^ 33 if the number is.
pub int_div_euclid-small : (z q : ℤ) (d : ℕ) → (neg_ℤ (pos (2 ^ 33)) ≤ℤ z) × (z ≤ℤ pos (2 ^ 33)) → q ≡ int_div_euclid z (pos d) → (neg_ℤ (pos (2 ^ 33)) ≤ℤ q) × (q ≤ℤ pos (2 ^ 33))
int_div_euclid-small (pos i) q d small e =
    let below : i / d ≤ i = div-le_self i d in
    (omega (arith, ints), omega (arith, ints))
int_div_euclid-small (negsuc i) q d small e =
    let below : i / d ≤ i = div-le_self i d in
    (omega (arith, ints), omega (arith, ints))
