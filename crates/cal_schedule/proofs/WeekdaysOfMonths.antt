-- The days of a month with a weekday, by their indexes in the month, and the nearest days with one.
use Rattle.std.proofs.Common.{◌≡◌, ℕ, suc, ◌+◌, ◌-◌, ◌*◌, ◌%◌, ◌<◌, ◌≤◌, refl, sym, ap, ◌∙◌, subst, arith, ℤ, inl, inr, true, false, if◌then◌else◌, nat_le, filter, slice_get, Option, Some, None}
use Rattle.std.specs.Prelude.{SomeIff}
use Rattle.std.proofs.lemmas.Bool.{cases_lt}
use Rattle.std.proofs.lemmas.Bool.Decides.{nat_tests}
use Rattle.cal_time.specs.CalendarDay.{calendar_day}
use Rattle.cal_time.specs.Date.{last_day, year_at, month_at, day_of_month_at, weekday_at, IsDate, IsYear, HasCalendarDate}
use Rattle.cal_time.specs.Days.{day_of_month_at-range, year_at-range}
use Rattle.cal_time.specs.Laws.{weekday_at-is, kth-next_occurrences, kth-prev_occurrences}
use Rattle.cal_time.specs.Lengths.{days_in_month}
use Rattle.cal_time.specs.Occurrences.{days_from, days_back_from, has_weekday, next_occurrences, prev_occurrences, kth}
use Rattle.cal_schedule.specs.Weekdays.{IsWeekdayInMonth, IsNthWeekday, occurrences_from, occurrences_upto}
use Rattle.cal_schedule.specs.WeekdaysLaws.{counted}

-- a day of the range has a year of the range
pub year_of : (y : ℤ) (m w k : ℕ) → IsDate k → IsWeekdayInMonth y m w k → IsYear y
year_of y m w k h is = subst IsYear is.year (year_at-range k h)

-- a month has 31 days at most
pub days_in_month-most : (y : ℤ) (m : ℕ) → days_in_month y m ≤ 31
unfolding days_in_month
days_in_month-most y m = grind (arith, nat_tests)

-- the day of the month of the k-th, and the k-th by its day of the month
pub record IsPlaceOf (f w k d : ℕ) : Type 0 where
  pub day : d + 6 ≡ 7 * k + (w + 7 - f % 7) % 7
  pub least : 1 ≤ k
  pub most : k ≤ 5

pub nth-index : (y : ℤ) (m f w k n : ℕ) → HasCalendarDate y m 1 f → w < 7 → IsNthWeekday y m w k n
    → HasCalendarDate y m (day_of_month_at n) n × IsPlaceOf f w k (day_of_month_at n)
nth-index y m f w k n e below h =
    let at : HasCalendarDate y m (day_of_month_at n) n =
    ap (λ z. calendar_day z (month_at n) (day_of_month_at n)) h.is.year ∙ ap (λ i. calendar_day y i (day_of_month_at n)) h.is.month in
    let count = counted y m f w (day_of_month_at n) n e at below in
    let weekday : n % 7 ≡ w = sym (weekday_at-is n) ∙ h.is.weekday in
    let range = day_of_month_at-range n in
    let length = days_in_month-most (year_at n) (month_at n) in (
      at,
      record {
        day = omega (arith, count.0, count.1, h.nth, weekday);
        least = omega (arith, count.0, count.1, h.nth, weekday, range.0);
        most = omega (arith, count.0, count.1, h.nth, weekday, range.1, length);
      },
    )

-- the days from one on that have the weekday begin with that one, or are those after it
from-on : (w n count : ℕ) → has_weekday w n ≡ true → slice_get (filter (has_weekday w) (days_from n (suc count))) 0 ≡ Some n
unfolding days_from
from-on w n count h = rw h refl

from-off : (w n count : ℕ) → has_weekday w n ≡ false → filter (has_weekday w) (days_from n (suc count)) ≡ filter (has_weekday w) (days_from (n + 1) count)
unfolding days_from
from-off w n count h = rw h refl

back-on : (w n : ℕ) → has_weekday w n ≡ true → slice_get (filter (has_weekday w) (days_back_from (suc n))) 0 ≡ Some n
unfolding days_back_from
back-on w n h = rw h refl

back-off : (w n : ℕ) → has_weekday w n ≡ false → filter (has_weekday w) (days_back_from (suc n)) ≡ filter (has_weekday w) (days_back_from n)
unfolding days_back_from
back-off w n h = rw h refl

pub from-here : (w n : ℕ) → IsDate n → weekday_at n ≡ w → Some n ≡ slice_get (occurrences_from w n) 0
from-here w n h e =
    let on : has_weekday w n ≡ true = grind (arith, nat_tests) in
    let count : last_day + 1 - n ≡ suc (last_day - n) = omega arith in
    sym (ap (λ c. slice_get (filter (has_weekday w) (days_from n c)) 0) count ∙ from-on w n (last_day - n) on)

pub from-next : (w n : ℕ) → IsDate n → ¬ (weekday_at n ≡ w) → next_occurrences w n ≡ occurrences_from w n
from-next w n h other =
    let off : has_weekday w n ≡ false = grind (arith, nat_tests) in
    let count : last_day + 1 - n ≡ suc (last_day - n) = omega arith in
    sym (ap (λ c. filter (has_weekday w) (days_from n c)) count ∙ from-off w n (last_day - n) off)

pub upto-here : (w n : ℕ) → weekday_at n ≡ w → Some n ≡ slice_get (occurrences_upto w n) 0
upto-here w n e =
    let on : has_weekday w n ≡ true = grind (arith, nat_tests) in
    let next : n + 1 ≡ suc n = omega arith in
    sym (ap (λ c. slice_get (filter (has_weekday w) (days_back_from c)) 0) next ∙ back-on w n on)

pub upto-previous : (w n : ℕ) → ¬ (weekday_at n ≡ w) → prev_occurrences w n ≡ occurrences_upto w n
upto-previous w n other =
    let off : has_weekday w n ≡ false = grind (arith, nat_tests) in
    let next : n + 1 ≡ suc n = omega arith in
    sym (ap (λ c. filter (has_weekday w) (days_back_from c)) next ∙ back-off w n off)

-- And if it is in range.
iff : (a b x y : ℕ) (r : Option ℕ) → r ≡ (if nat_le a b then Some x else None) → x ≡ y → SomeIff r (a ≤ b) y
iff a b x y r e same =
    elim (cases_lt b a) as (λ _. SomeIff r (a ≤ b) y) [
      | inl past ↦ let none : nat_le a b ≡ false = grind (arith, nat_tests) in rw (e, none) (λ h. omega arith)
      | inr within ↦ let some : nat_le a b ≡ true = grind (arith, nat_tests) in rw (e, some) (within, same)
    ]

pub next-index : (w n : ℕ) (r : Option ℕ) → w < 7 → ¬ (weekday_at n ≡ w) → r ≡ kth 1 (next_occurrences w n)
    → SomeIff r (n + (w + 7 - weekday_at n) % 7 ≤ last_day) (n + (w + 7 - weekday_at n) % 7)
next-index w n r below other e =
    let k = (w + 7 - weekday_at n) % 7 in
    let is = weekday_at-is n in
    let some : 1 ≤ k = omega arith in
    let there : (weekday_at n + k) % 7 ≡ w = omega arith in
    let plain : k + 7 * 0 ≡ k = omega arith in
    iff _ _ _ _ r (e ∙ kth-next_occurrences w n k 0 some (omega arith) there ∙ ap (λ j. if nat_le (n + j) last_day then Some (n + j) else None) plain) refl

pub previous-index : (w n : ℕ) (r : Option ℕ) → w < 7 → ¬ (weekday_at n ≡ w) → r ≡ kth 1 (prev_occurrences w n)
    → SomeIff r ((weekday_at n + 7 - w) % 7 ≤ n) (n - (weekday_at n + 7 - w) % 7)
previous-index w n r below other e =
    let k = (weekday_at n + 7 - w) % 7 in
    let is = weekday_at-is n in
    let some : 1 ≤ k = omega arith in
    let there : (w + k) % 7 ≡ weekday_at n = omega arith in
    let plain : k + 7 * 0 ≡ k = omega arith in
    iff _ _ _ _ r (e ∙ kth-prev_occurrences w n k 0 some (omega arith) below there ∙ ap (λ j. if nat_le j n then Some (n - j) else None) plain) refl
