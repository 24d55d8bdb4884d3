-- The whole units from one date or moment to another, truncated toward zero.
use Rattle.std.specs.Prelude.{◌≡◌, ℕ, ◌≤◌, ◌<◌, ℤ, pos, ◌+ℤ◌, ◌-ℤ◌, length, unsigned_abs}
use Rattle.cal_date.specs.Arithmetic.{clamped_date}
use Rattle.cal_time.specs.SignedDuration.{cut, whole_days, week, day, hour, minute, second}
use Rattle.cal_datetime.specs.DateTime.{date_at}
use Rattle.cal_datetime.specs.OffsetDateTime.{LocalAndOffset, instant}
use Rattle.cal_schedule.specs.Months.{IsMonthsLater}
use Rattle.cal_schedule.specs.Until.{IsGreatest, IsLeast}
use Rattle.cal_schedule.specs.Workdays.{WorkWeek, workdays_within}
use Rattle.caldate_answers.specs.declared.request.TimeUnit.{TimeUnit}
use Rattle.caldate_answers.specs.declared.request.TimeUnit.TheVariants as unit

-- The duration from one moment to another.
abbrev pub duration_between : LocalAndOffset → LocalAndOffset → ℤ
duration_between from to = instant to -ℤ instant from

-- The day that is reached: the whole days of the duration after the local date of `from`. It may lie
-- outside the range.
abbrev pub reached : LocalAndOffset → LocalAndOffset → ℤ
reached from to = pos (date_at from.local) +ℤ whole_days (duration_between from to)

-- ---- months and years
-- A day has the number of the day 400 years later, in which the calendar repeats. So a day before the
-- range has one, too.
abbrev pub number_of : ℤ → ℕ
number_of z = unsigned_abs (z +ℤ pos 146_097)

-- The day `months` months after day n doesn't come after day t, or before it.
abbrev pub IsUpTo : ℕ → ℕ → ℤ → Type 0
IsUpTo n t months = (day : ℕ) × IsMonthsLater n months day × (day ≤ t)

abbrev pub IsBackTo : ℕ → ℕ → ℤ → Type 0
IsBackTo n t months = (day : ℕ) × IsMonthsLater n months day × (t ≤ day)

-- The number of months from day n to day t is z: the maximum that doesn't pass day t, or backward the
-- minimum.
unfoldable pub AreMonths : ℕ → ℕ → ℤ → Type 0
AreMonths n t z = (n ≤ t → IsGreatest (IsUpTo n t) z) × (t < n → IsLeast (IsBackTo n t) z)

-- The number of months from one moment to another.
abbrev pub AreMonthsTo : LocalAndOffset → LocalAndOffset → ℤ → Type 0
AreMonthsTo from to z = AreMonths (number_of (pos (date_at from.local))) (number_of (reached from to)) z

-- A year is twelve months.
abbrev pub AreYearsTo : LocalAndOffset → LocalAndOffset → ℤ → Type 0
AreYearsTo from to z = (months : ℤ) × AreMonthsTo from to months × (z ≡ cut months (pos 12))

-- ---- working days, which are days of the range
abbrev pub AreWorkdays : WorkWeek → ℕ → ℕ → ℤ → Type 0
AreWorkdays workdays n t z = z ≡ pos (length (workdays_within workdays n t)) -ℤ pos (length (workdays_within workdays t n))

-- The number of units from one moment to another is z.
abbrev pub IsCount : WorkWeek → TimeUnit → LocalAndOffset → LocalAndOffset → ℤ → Type 0
IsCount workdays unit.Years from to z = AreYearsTo from to z
IsCount workdays unit.Months from to z = AreMonthsTo from to z
IsCount workdays unit.Workdays from to z = AreWorkdays workdays (date_at from.local) (clamped_date (reached from to)) z
IsCount workdays unit.Weeks from to z = z ≡ cut (duration_between from to) (pos week)
IsCount workdays unit.Days from to z = z ≡ cut (duration_between from to) (pos day)
IsCount workdays unit.Hours from to z = z ≡ cut (duration_between from to) (pos hour)
IsCount workdays unit.Minutes from to z = z ≡ cut (duration_between from to) (pos minute)
IsCount workdays unit.Seconds from to z = z ≡ cut (duration_between from to) (pos second)
