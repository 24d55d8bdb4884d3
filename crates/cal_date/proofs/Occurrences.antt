-- The days with a weekday come every seven days, forward and backward.
use Rattle.std.proofs.Common.{◌≡◌, ◌≢◌, ℕ, zero, suc, ◌+◌, ◌-◌, ◌*◌, ◌%◌, ◌<◌, ◌≤◌, refl, ◌∙◌, arith, List, [], ◌∷◌, filter, slice_get, Some, None, true, false, if◌then◌else◌, nat_lt, nat_le}
use Rattle.std.proofs.lemmas.Bool.Decides.{nat_tests}
use Rattle.cal_date.specs.Date.{last_day, weekday_at}
use Rattle.cal_date.specs.Occurrences.{days_from, days_back_from, has_weekday, next_occurrences, prev_occurrences, kth}
use Rattle.cal_date.proofs.Weekdays.{weekday_at-is}
use Rattle.std.proofs.lemmas.Int.{ints}
use Rattle.cal_units.specs.WeekdayCycle.{index-below}

-- One step of each list.
pub days_from-suc : (n count : ℕ) → days_from n (suc count) ≡ n ∷ days_from (n + 1) count
unfolding days_from
days_from-suc n count = refl

pub days_from-none : (n : ℕ) → days_from n 0 ≡ []
unfolding days_from
days_from-none n = refl

days_back_from-suc : (n : ℕ) → days_back_from (suc n) ≡ n ∷ days_back_from n
unfolding days_back_from
days_back_from-suc n = refl

days_back_from-none : days_back_from 0 ≡ []
unfolding days_back_from
days_back_from-none = refl

has_weekday-true : (w n : ℕ) → n % 7 ≡ w → has_weekday w n ≡ true
has_weekday-true w n h = rw (weekday_at-is n) (grind (arith, nat_tests))

has_weekday-false : (w n : ℕ) → n % 7 ≢ w → has_weekday w n ≡ false
has_weekday-false w n h = rw (weekday_at-is n) (grind (arith, nat_tests))

-- The first day of a list has the weekday, or not.
first_is_on : (w n : ℕ) (days : List ℕ) → has_weekday w n ≡ true → filter (has_weekday w) (n ∷ days) ≡ n ∷ filter (has_weekday w) days
first_is_on w n days h = rw h refl

first_is_not : (w n : ℕ) (days : List ℕ) → has_weekday w n ≡ false → filter (has_weekday w) (n ∷ days) ≡ filter (has_weekday w) days
first_is_not w n days h = rw h refl

-- If the first of consecutive days with the weekday is k days later, the next ones follow every
-- seven days.
in_days_from : (w n k m count : ℕ) → k < 7 → (n + k) % 7 ≡ w
    → slice_get (filter (has_weekday w) (days_from n count)) m ≡ (if nat_lt (k + 7 * m) count then Some (n + k + 7 * m) else None)
in_days_from w n k m zero h e = rw (days_from-none n) (grind (arith, nat_tests))
in_days_from w n zero zero (suc count) h e =
    rw (days_from-suc n count, first_is_on w n (days_from (n + 1) count) (has_weekday-true w n (omega arith))) (grind (arith, nat_tests))
in_days_from w n zero (suc m) (suc count) h e =
    rw (days_from-suc n count, first_is_on w n (days_from (n + 1) count) (has_weekday-true w n (omega arith)))
    (in_days_from w (n + 1) 6 m count (omega arith) (omega arith) ∙ grind (arith, nat_tests))
in_days_from w n (suc k) m (suc count) h e =
    rw (days_from-suc n count, first_is_not w n (days_from (n + 1) count) (has_weekday-false w n (omega arith)))
    (in_days_from w (n + 1) k m count (omega arith) (omega arith) ∙ grind (arith, nat_tests))

-- If the nearest earlier day with the weekday is k days before the day before, the next ones follow
-- every seven days, backward.
in_days_before : (w n k m : ℕ) → w < 7 → k < 7 → (w + k + 1) % 7 ≡ n % 7
    → slice_get (filter (has_weekday w) (days_back_from n)) m ≡ (if nat_lt (k + 7 * m) n then Some (n - 1 - (k + 7 * m)) else None)
in_days_before w zero k m g h e = rw days_back_from-none (grind (arith, nat_tests))
in_days_before w (suc n) zero zero g h e =
    rw (days_back_from-suc n, first_is_on w n (days_back_from n) (has_weekday-true w n (omega arith))) (grind (arith, nat_tests))
in_days_before w (suc n) zero (suc m) g h e =
    rw (days_back_from-suc n, first_is_on w n (days_back_from n) (has_weekday-true w n (omega arith)))
    (in_days_before w n 6 m g (omega arith) (omega arith) ∙ grind (arith, nat_tests))
in_days_before w (suc n) (suc k) m g h e =
    rw (days_back_from-suc n, first_is_not w n (days_back_from n) (has_weekday-false w n (omega arith)))
    (in_days_before w n k m g (omega arith) (omega arith) ∙ grind (arith, nat_tests))

-- The k-th occurrence, counted from 1, is the days to the first occurrence, from 1 to 7, and seven
-- days for each further one.
pub kth-next_occurrences : (w n k m : ℕ) → 1 ≤ k → k ≤ 7 → (weekday_at n + k) % 7 ≡ w
    → kth (suc m) (next_occurrences w n) ≡ (if nat_le (n + (k + 7 * m)) last_day then Some (n + (k + 7 * m)) else None)
kth-next_occurrences w n k m low high e =
    let there : (n + 1 + (k - 1)) % 7 ≡ w = omega (arith, weekday_at-is n) in
    in_days_from w (n + 1) (k - 1) m (last_day - n) (omega arith) there ∙ grind (arith, nat_tests)

pub kth-prev_occurrences : (w n k m : ℕ) → 1 ≤ k → k ≤ 7 → w < 7 → (w + k) % 7 ≡ weekday_at n
    → kth (suc m) (prev_occurrences w n) ≡ (if nat_le (k + 7 * m) n then Some (n - (k + 7 * m)) else None)
kth-prev_occurrences w n k m low high below e =
    let there : (w + (k - 1) + 1) % 7 ≡ n % 7 = omega (arith, weekday_at-is n) in
    in_days_before w n (k - 1) m below (omega arith) there ∙ grind (arith, nat_tests)

-- The days to the first occurrence after a day, and back to the first one before it, by one
-- remainder.
pub days_to_next : (w n p : ℕ) → w < 7 → n ≤ last_day → last_day < p → p % 7 ≡ 0 → (weekday_at n + ((w + p - 1 - n) % 7 + 1)) % 7 ≡ w
days_to_next w n p below h past whole = let is = weekday_at-is n in omega arith

pub days_to_prev : (w n : ℕ) → w < 7 → (w + ((n + 6 - w) % 7 + 1)) % 7 ≡ weekday_at n
days_to_prev w n below = let is = weekday_at-is n in omega arith

-- The day at this distance is the occurrence.
pub next_found : (w n m p : ℕ) → w < 7 → n ≤ last_day → last_day < p → p % 7 ≡ 0
    → kth (suc m) (next_occurrences w n) ≡ (if nat_le (n + ((w + p - 1 - n) % 7 + 1 + 7 * m)) last_day then Some (n + ((w + p - 1 - n) % 7 + 1 + 7 * m)) else None)
next_found w n m p below h past whole = kth-next_occurrences w n ((w + p - 1 - n) % 7 + 1) m (omega arith) (omega arith) (days_to_next w n p below h past whole)

pub prev_found : (w n m : ℕ) → w < 7
    → kth (suc m) (prev_occurrences w n) ≡ (if nat_le ((n + 6 - w) % 7 + 1 + 7 * m) n then Some (n - ((n + 6 - w) % 7 + 1 + 7 * m)) else None)
prev_found w n m below = kth-prev_occurrences w n ((n + 6 - w) % 7 + 1) m (omega arith) (omega arith) below (days_to_prev w n below)

pub ruleset days_before = (weekday_at-is, prev_found, index-below, ints, nat_tests)
