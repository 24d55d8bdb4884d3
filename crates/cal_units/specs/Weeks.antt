-- The weeks of a year, counted by its Thursdays (ISO 8601: a week belongs to the year of its
-- Thursday). A weekday is its index, from 0 for Monday to 6 for Sunday. The weekday of 1 January is
-- counted year by year, forward and backward, from year 1, which begins on a Monday.
use Rattle.std.specs.Prelude.{ℕ, zero, suc, ◌+◌, ◌-◌, ◌%◌, ◌==◌, if◌then◌else◌, ℤ, pos, negsuc, ◌-ℤ◌}
use Rattle.cal_units.specs.Lengths.{days_in_year}

-- The weekday some days after a weekday.
abbrev pub weekday_after : ℕ → ℕ → ℕ
weekday_after weekday days = (weekday + days) % 7

-- The weekday some days before a weekday.
abbrev pub weekday_before : ℕ → ℕ → ℕ
weekday_before weekday days = (weekday + (7 - days % 7)) % 7

-- The weekday of 1 January, n years after year 1.
unfoldable pub first_weekday_after : ℕ → ℕ
first_weekday_after zero = 0
first_weekday_after (suc n) = weekday_after (first_weekday_after n) (days_in_year (pos (suc n)))

-- The weekday of 1 January, n years before year 1.
unfoldable pub first_weekday_before : ℕ → ℕ
first_weekday_before zero = 0
first_weekday_before (suc n) = weekday_before (first_weekday_before n) (days_in_year (pos 0 -ℤ pos n))

-- The weekday of 1 January of any year. Year 0 is one year before year 1, and year -1 is two years
-- before it.
unfoldable pub first_weekday : ℤ → ℕ
first_weekday (pos zero) = first_weekday_before 1
first_weekday (pos (suc n)) = first_weekday_after n
first_weekday (negsuc n) = first_weekday_before (n + 2)

-- The number of Thursdays, weekdays with the index 3, among n days. `first` is the weekday of the
-- first day.
unfoldable pub thursdays : ℕ → ℕ → ℕ
thursdays first zero = 0
thursdays first (suc n) = thursdays first n + (if weekday_after first n == 3 then 1 else 0)

-- The number of weeks of a year is the number of its Thursdays.
unfoldable pub weeks_in_year : ℤ → ℕ
weeks_in_year y = thursdays (first_weekday y) (days_in_year y)
