-- Laws for callers: the rank of a working day is the number of working days before it.
use Rattle.std.proofs.Common.{◌≡◌, ℕ, ◌+◌, ◌-◌, ◌≤◌, refl, ap, ◌∙◌, arith, length, slice_get, Some, true, add-one, inl, inr, pos, ◌-ℤ◌}
use Rattle.std.proofs.lemmas.Bool.{cases_lt, and_from, eq-eqb}
use Rattle.std.proofs.lemmas.Bool.Decides.{Decides-int_eq}
use Rattle.std.proofs.lemmas.Int.{ints}
use Rattle.cal_time.specs.Date.{last_day, year_at, month_at, IsDate}
use Rattle.cal_time.specs.IsoWeekDate.{count_before}
use Rattle.cal_schedule.specs.Workdays.{WorkWeek, is_workday, workdays_from, workdays_before, workdays_within}
use Rattle.cal_schedule.specs.WorkdaysConvention.{following, preceding, is_in_month_of, first_in_same_month, adjusted_date}
use Rattle.cal_schedule.specs.declared.workdays.convention.Convention.{Convention}
use Rattle.cal_schedule.specs.declared.workdays.convention.Convention.TheVariants.{Unadjusted, Following, ModifiedFollowing, Preceding, ModifiedPreceding}
use Rattle.cal_schedule.specs.Ranks.{count-yes, length-from, nth-from, nth-back}

-- A working day of the range is the first one from itself on.
from-here : (w : WorkWeek) (n : ℕ) → IsDate n → is_workday w n ≡ true → slice_get (workdays_from w n) 0 ≡ Some n
from-here w n h on = nth-from (is_workday w) n (last_day + 1 - n) 0 n (omega arith) (omega arith) on (omega arith)

-- A working day is the last one up to itself.
back-here : (w : WorkWeek) (n : ℕ) → is_workday w n ≡ true → slice_get (workdays_before w (n + 1)) 0 ≡ Some n
back-here w n on = nth-back (is_workday w) (n + 1) 0 n (omega arith) on (omega (arith, ap (count_before (is_workday w)) (add-one n), count-yes (is_workday w) n on))

-- A day is in its own month.
in-own : (n : ℕ) → is_in_month_of n n ≡ true
in-own n = and_from _ _ ((Decides-int_eq (year_at n) (year_at n)).1 refl) (eq-eqb (month_at n) (month_at n) refl)

-- Each convention moves a working day to itself.
pub adjusted_date-kept : (w : WorkWeek) (convention : Convention) (n : ℕ) → IsDate n → is_workday w n ≡ true → adjusted_date w convention n ≡ Some n
adjusted_date-kept w Unadjusted n h on = refl
adjusted_date-kept w Following n h on = from-here w n h on
adjusted_date-kept w Preceding n h on = back-here w n on
adjusted_date-kept w ModifiedFollowing n h on = ap (λ r. first_in_same_month n r (preceding w n)) (from-here w n h on) ∙ rw (in-own n) refl
adjusted_date-kept w ModifiedPreceding n h on = ap (λ r. first_in_same_month n r (following w n)) (back-here w n on) ∙ rw (in-own n) refl

-- The number of working days from day m on and before day n is the difference of their ranks.
pub length-within : (w : WorkWeek) (m n : ℕ) → m ≤ n → length (workdays_within w m n) + count_before (is_workday w) m ≡ count_before (is_workday w) n
length-within w m n h =
    let e : m + (n - m) ≡ n = omega arith in
    length-from (is_workday w) m (n - m) ∙ ap (count_before (is_workday w)) e

-- There are no working days from day m on and before an earlier day.
pub none-within : (w : WorkWeek) (m n : ℕ) → n ≤ m → length (workdays_within w m n) ≡ 0
none-within w m n h =
    let e : m + (n - m) ≡ m = omega arith in
    omega (arith, length-from (is_workday w) m (n - m), ap (count_before (is_workday w)) e)

-- Counted in either direction, the number of working days is the difference of the ranks.
pub between-is : (w : WorkWeek) (m n : ℕ)
    → (pos (length (workdays_within w m n)) -ℤ pos (length (workdays_within w n m))) ≡ pos (count_before (is_workday w) n) -ℤ pos (count_before (is_workday w) m)
between-is w m n =
    elim (cases_lt m n) [
      | inl less ↦ omega (arith, ints, length-within w m n (omega arith), none-within w n m (omega arith))
      | inr most ↦ omega (arith, ints, length-within w n m most, none-within w m n most)
    ]
