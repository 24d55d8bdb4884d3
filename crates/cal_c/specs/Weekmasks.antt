-- The working days that C passes: a weekmask, and the holidays as Julian days.
use Rattle.std.specs.Prelude.{ℕ, ◌/◌, ◌%◌, ◌<◌, ◌≤◌, ◌==◌, Bool, List, [], ◌∷◌, All, length, ℤ, pos, ◌-ℤ◌}
use Rattle.cal_time.specs.Counted.{IsRising}
use Rattle.cal_time.specs.Date.{julian_day_at}
use Rattle.cal_schedule.specs.Workdays.{WorkWeek, workdays_within}
use Rattle.cal_schedule.specs.declared.workdays.convention.Convention.{Convention}
use Rattle.cal_schedule.specs.declared.workdays.convention.Convention.TheVariants.{Unadjusted, Following, ModifiedFollowing, Preceding, ModifiedPreceding}
use Rattle.cal_c.specs.Values.{IsJulianDay, dates_in}

-- A weekmask is a sum of 1 for Monday, 2 for Tuesday, up to 64 for Sunday.
abbrev pub IsWeekmask : ℕ → Type 0
IsWeekmask k = k < 128

abbrev pub weekmask_in : ℕ → List Bool
weekmask_in k =
    (k % 2 == 1) ∷ (k / 2 % 2 == 1) ∷ (k / 4 % 2 == 1) ∷ (k / 8 % 2 == 1) ∷ (k / 16 % 2 == 1) ∷ (k / 32 % 2 == 1)
    ∷ (k / 64 % 2 == 1) ∷ []

-- Holidays are Julian days in ascending order.
pub record AreHolidays (hs : List ℤ) : Type 0 where
  pub dates : All IsJulianDay hs
  pub rising : IsRising julian_day_at (dates_in hs)

-- The working week with these marks and holidays.
abbrev pub work_week : ℕ → List ℤ → WorkWeek
work_week marks hs = record { marks = weekmask_in marks; holidays = dates_in hs }

-- The number of working days from day n to the day before day t, negative if t comes first.
abbrev pub workdays_between : WorkWeek → ℕ → ℕ → ℤ
workdays_between w n t = pos (length (workdays_within w n t)) -ℤ pos (length (workdays_within w t n))

-- Conventions are numbered from 0, `Unadjusted`.
abbrev pub convention_number : Convention → ℕ
convention_number Unadjusted = 0
convention_number Following = 1
convention_number ModifiedFollowing = 2
convention_number Preceding = 3
convention_number ModifiedPreceding = 4

abbrev pub IsConvention : ℕ → Type 0
IsConvention k = k ≤ 4
