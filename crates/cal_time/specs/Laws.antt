-- Laws for callers: relations between the terms of the contracts.
use Rattle.std.proofs.Common.{◌≡◌, ◌≢◌, ℕ, zero, suc, ◌+◌, ◌-◌, ◌*◌, ◌/◌, ◌%◌, ◌<◌, ◌≤◌, ℤ, List, [], ◌∷◌, ◌++◌, Option, Some, None, refl, sym, ap, ◌∙◌, arith, inl, inr, true, false, if◌then◌else◌, nat_le, length}
use Rattle.std.specs.Prelude.{IsSome}
use Rattle.std.proofs.lemmas.Bool.{cases_lt}
use Rattle.std.proofs.lemmas.Bool.Decides.{nat_tests}
use Rattle.cal_date.specs.Date.{last_day, weekday_at, IsDate, HasOrdinalDate, HasCalendarDate}
use Rattle.cal_date.specs.IsoWeekDate.{HasIsoWeekDate}
use Rattle.cal_date.specs.Occurrences.{next_occurrences, prev_occurrences, kth}
use Rattle.cal_date.specs.DateIter.{Walk, walk, walk_between, days_of, days_between}
use Rattle.cal_date.specs.DateText.{text}
use Rattle.cal_time.specs.Pair.{HasPairNumber, IsPairWithNumber}
use Rattle.cal_units.specs.Digits.{digit, digits_at_least, two_digits, prepend_digit, decimals}
use Rattle.cal_units.proofs.Decimals as fractions
use Rattle.cal_units.proofs.Digits as digits
use Rattle.cal_units.proofs.YearTexts as years
use Rattle.cal_date.proofs.Calendar as calendar
use Rattle.cal_date.proofs.DateIters as iters
use Rattle.cal_date.proofs.Dates.{in_range}
use Rattle.cal_date.proofs.DistinctTexts as texts
use Rattle.cal_date.proofs.IsoWeeks.{in_weeks}
use Rattle.cal_date.proofs.Occurrences as occurrences
use Rattle.cal_date.proofs.Weekdays as weekdays

-- The weekday of day n is the remainder of n by 7, because day 0 is a Monday.
pub weekday_at-is : (n : ℕ) → weekday_at n ≡ n % 7
weekday_at-is n = weekdays.weekday_at-is n

-- Two days of the range with the same ordinal date are the same day.
pub ordinal_date-one : (y : ℤ) (o m n : ℕ) → IsDate m → IsDate n → HasOrdinalDate y o m → HasOrdinalDate y o n → m ≡ n
ordinal_date-one y o m n h k e f = (in_range m y o h e).number_is ∙ sym (in_range n y o k f).number_is

-- Two days of the range with the same calendar date are the same day.
pub calendar_date-one : (y : ℤ) (month d m n : ℕ) → IsDate m → IsDate n → HasCalendarDate y month d m → HasCalendarDate y month d n → m ≡ n
calendar_date-one = calendar.calendar_date-one

-- Two days of the range with the same ISO week date are the same day.
pub iso_week_date-one : (y : ℤ) (w wd m n : ℕ) → IsDate m → IsDate n → HasIsoWeekDate y w wd m → HasIsoWeekDate y w wd n → m ≡ n
iso_week_date-one y w wd m n h k e f = (in_weeks m y w wd h e).number_is ∙ sym (in_weeks n y w wd k f).number_is

-- Two days of the range with the same text are the same day.
pub text-one : (m n : ℕ) → IsDate m → IsDate n → text m ≡ text n → m ≡ n
text-one = texts.text-one

-- The law above for a caller's `#[tactic(auto, using(..))]`, which takes no name with a dash.
pub ruleset distinct_texts = (text-one)

-- A number below 100, written with two or more digits, has exactly two.
pub digits_at_least-two : (n : ℕ) → n < 100 → digits_at_least 2 n ≡ two_digits n
digits_at_least-two n low = digits.digits_at_least-two n low

-- A number below 10000, written with four or more digits, has exactly four: two for its hundreds,
-- and two for the rest.
pub digits_at_least-four : (n : ℕ) → n < 10_000 → digits_at_least 4 n ≡ two_digits (n / 100 % 100) ++ two_digits (n % 100)
digits_at_least-four n low = years.four_digits n low

-- The decimals of a fraction of a second are at most nine.
pub length-decimals : (n : ℕ) → length (decimals n) ≤ 9
length-decimals n = fractions.decimals-few n

-- A digit that isn't 0 is kept before all digits.
pub prepend_digit-other : (d : ℕ) (ds : List ℕ) → d ≢ digit 0 → prepend_digit d ds ≡ d ∷ ds
prepend_digit-other d ds other = fractions.is-before-other d ds other

-- A digit 0 before no other digits is dropped.
pub prepend_digit-zero : (d : ℕ) → d ≡ digit 0 → prepend_digit d [] ≡ []
prepend_digit-zero d e = fractions.none-of-zero d e

-- If the weekday w comes first k days after day n, with k from 1 to 7, its next occurrences are k
-- days later and each seven days after that, up to the last day of the range. The occurrence with
-- the number m + 1 is m weeks after the first one.
pub kth-next_occurrences : (w n k m : ℕ) → 1 ≤ k → k ≤ 7 → (weekday_at n + k) % 7 ≡ w
    → kth (suc m) (next_occurrences w n) ≡ (if nat_le (n + (k + 7 * m)) last_day then Some (n + (k + 7 * m)) else None)
kth-next_occurrences w n k m low high e = occurrences.kth-next_occurrences w n k m low high e

-- If the weekday w comes first k days before day n, with k from 1 to 7, its previous occurrences
-- are k days earlier and each seven days before that, back to day 0. The occurrence with the number
-- m + 1 is m weeks before the first one.
pub kth-prev_occurrences : (w n k m : ℕ) → 1 ≤ k → k ≤ 7 → w < 7 → (w + k) % 7 ≡ weekday_at n
    → kth (suc m) (prev_occurrences w n) ≡ (if nat_le (k + 7 * m) n then Some (n - (k + 7 * m)) else None)
kth-prev_occurrences w n k m low high below e = occurrences.kth-prev_occurrences w n k m low high below e

-- The number of days from day n to the next day after it with the weekday w, from 1 to 7.
days_on : ℕ → ℕ → ℕ
days_on w n = (w + 6 - n % 7) % 7 + 1

-- A result that is a value if b is at most c, and `None` otherwise, is a value if b is at most c.
some-if : (b c x : ℕ) (r : Option ℕ) → b ≤ c → r ≡ (if nat_le b c then Some x else None) → IsSome r
some-if b c x None h e = absurd (grind (arith, nat_tests))
some-if b c x (Some y) h e = refl

-- The k-th next occurrence of a weekday exists if k weeks are left after day n in the range.
pub next_occurrence-some : (w n k : ℕ) → w < 7 → 1 ≤ k → n + 7 * k ≤ last_day → IsSome (kth k (next_occurrences w n))
unfolding days_on
next_occurrence-some w n zero below some left = absurd (omega arith)
next_occurrence-some w n (suc m) below some left =
    let there : (weekday_at n + days_on w n) % 7 ≡ w = omega (arith, weekday_at-is n) in
    some-if _ _ _ _ (omega arith) (kth-next_occurrences w n (days_on w n) m (omega arith) (omega arith) there)

-- The k-th previous occurrence of a weekday exists if k weeks of the range are before day n.
pub prev_occurrence-some : (w n k : ℕ) → w < 7 → 1 ≤ k → 7 * k ≤ n → IsSome (kth k (prev_occurrences w n))
prev_occurrence-some w n zero below some left = absurd (omega arith)
prev_occurrence-some w n (suc m) below some left =
    some-if _ _ _ _ (omega arith) (kth-prev_occurrences w n ((n + 6 - w) % 7 + 1) m (omega arith) (omega arith) below (occurrences.days_to_prev w n below))

-- A walk with a back day has the days from its front day to its back day, both counted.
pub length-days_of : (w : Walk) (b : ℕ) → w.back ≡ Some b → length (days_of w) ≡ b + 1 - w.front
length-days_of w b e = iters.length-days_of w b e

-- The walk from day m to day n has the days from m to n, both counted, or 0 days if m is after n.
pub length-walk_between : (m n : ℕ) → length (days_of (walk_between m n)) ≡ n + 1 - m
length-walk_between m n =
    elim (cases_lt n m) [
      | inl less ↦
          let none : nat_le m n ≡ false = grind (arith, nat_tests) in
          ap (λ b. length (days_between m (if b then Some n else None))) none ∙ omega arith
      | inr more ↦
          let some : nat_le m n ≡ true = grind (arith, nat_tests) in
          ap (λ b. length (days_between m (if b then Some n else None))) some ∙ iters.length-days_of (walk m (Some n)) n refl
    ]

-- If a day of the range and a time of day have a number, the pair with this number isn't `None`.
pub pair_at-some : (z : ℤ) (n t : ℕ) (r : Option (ℕ × ℕ)) → IsPairWithNumber z r → HasPairNumber z n t → IsSome r
pair_at-some z n t None none has = absurd (none n t has)
pair_at-some z n t (Some pair) at has = refl
