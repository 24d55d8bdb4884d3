-- The ISO week date of a day, and the weeks of its year from Sunday or Monday on, each by a count
-- of days (ISO 8601: a week begins on Monday, and belongs to the year of its Thursday). A weekday
-- is its index, from 0 for Monday to 6 for Sunday.
use Rattle.std.specs.Prelude.{◌≡◌, ℕ, zero, suc, ◌+◌, ◌-◌, ◌≤◌, ◌==◌, ◌&&◌, Bool, if◌then◌else◌, ℤ}
use Rattle.std.specs.Ordering.{int_eq}
use Rattle.cal_units.specs.Weeks.{weeks_in_year}
use Rattle.cal_date.specs.Date.{year_at, weekday_at}

-- The number of days before day n that pass the test.
unfoldable pub count_before : (ℕ → Bool) → ℕ → ℕ
count_before test zero = 0
count_before test (suc n) = count_before test n + (if test n then 1 else 0)

-- Day n is a day of the year y with the weekday w.
abbrev pub is_weekday_of_year : ℕ → ℤ → ℕ → Bool
is_weekday_of_year w y n = int_eq (year_at n) y && (weekday_at n == w)

-- The number of days with the weekday w in the year of day n, up to and including day n.
abbrev pub weekday_count : ℕ → ℕ → ℕ
weekday_count w n = count_before (is_weekday_of_year w (year_at n)) (n + 1)

-- The Thursday of the week of day n: three days after the Monday of this week.
abbrev pub thursday_of : ℕ → ℕ
thursday_of n = n - weekday_at n + 3

-- The ISO year of day n: the year of the Thursday of its week.
unfoldable pub iso_year_at : ℕ → ℤ
iso_year_at n = year_at (thursday_of n)

-- The ISO week of day n: the number of Thursdays of its ISO year up to and including the Thursday
-- of its week.
unfoldable pub iso_week_at : ℕ → ℕ
iso_week_at n = weekday_count 3 (thursday_of n)

-- The ISO year y has the week w.
abbrev pub IsWeek : ℤ → ℕ → Type 0
IsWeek y w = (1 ≤ w) × (w ≤ weeks_in_year y)

-- Day n has the ISO week date (y, w, wd) if they are its ISO year, its ISO week and its weekday.
abbrev pub HasIsoWeekDate : ℤ → ℕ → ℕ → ℕ → Type 0
HasIsoWeekDate y w wd n = (iso_year_at n ≡ y) × (iso_week_at n ≡ w) × (weekday_at n ≡ wd)
