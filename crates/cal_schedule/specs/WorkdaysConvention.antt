-- Days moved to working days, by the business day conventions of the ISDA Definitions.
use Rattle.std.specs.Prelude.{◌≡◌, ℕ, ◌+◌, ◌==◌, ◌&&◌, ◌≤◌, Bool, true, Option, Some, None, slice_get, if◌then◌else◌}
use Rattle.std.specs.Ordering.{int_eq}
use Rattle.cal_time.specs.Date.{year_at, month_at}
use Rattle.cal_schedule.specs.Workdays.{WorkWeek, is_workday, workdays_from, workdays_before}
use Rattle.cal_schedule.specs.declared.workdays.convention.Convention.{Convention}
use Rattle.cal_schedule.specs.declared.workdays.convention.Convention.TheVariants.{Unadjusted, Following, ModifiedFollowing, Preceding, ModifiedPreceding}

-- The first working day from day n on, or `None` if the range has none.
abbrev pub following : WorkWeek → ℕ → Option ℕ
following w n = slice_get (workdays_from w n) 0

-- The last working day up to and including day n, or `None` if the range has none.
abbrev pub preceding : WorkWeek → ℕ → Option ℕ
preceding w n = slice_get (workdays_before w (n + 1)) 0

-- Day r is in the month of day n, of the same year.
abbrev pub is_in_month_of : ℕ → ℕ → Bool
is_in_month_of n r = int_eq (year_at r) (year_at n) && (month_at r == month_at n)

-- The first of two days if it is in the month of day n, else the second. Each can be missing.
abbrev pub first_in_same_month : ℕ → Option ℕ → Option ℕ → Option ℕ
first_in_same_month n None second = second
first_in_same_month n (Some r) second = if is_in_month_of n r then Some r else second

-- The day to which a convention moves day n, or `None` if the range has none.
abbrev pub adjusted_date : WorkWeek → Convention → ℕ → Option ℕ
adjusted_date w Unadjusted n = Some n
adjusted_date w Following n = following w n
adjusted_date w ModifiedFollowing n = first_in_same_month n (following w n) (preceding w n)
adjusted_date w Preceding n = preceding w n
adjusted_date w ModifiedPreceding n = first_in_same_month n (preceding w n) (following w n)

-- Day r, to which a convention moves day n, is day n by `Unadjusted`. By the others it is a working
-- day, not before day n by `Following` and not after it by `Preceding`.
abbrev pub IsAdjusted : WorkWeek → Convention → ℕ → ℕ → Type 0
IsAdjusted w Unadjusted n r = r ≡ n
IsAdjusted w Following n r = (is_workday w r ≡ true) × (n ≤ r)
IsAdjusted w ModifiedFollowing n r = is_workday w r ≡ true
IsAdjusted w Preceding n r = (is_workday w r ≡ true) × (r ≤ n)
IsAdjusted w ModifiedPreceding n r = is_workday w r ≡ true
