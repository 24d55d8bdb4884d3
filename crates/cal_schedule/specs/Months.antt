-- Days counted by months. Months are numbered through the years, from 0 for January of the year 0.
use Rattle.std.specs.Prelude.{◌≡◌, ℕ, ◌+◌, ◌/◌, min, ℤ, pos, ◌+ℤ◌, ◌-ℤ◌, ◌*ℤ◌, ◌<ℤ◌, ◌≤ℤ◌}
use Rattle.cal_time.specs.Date.{first_year, last_year, year_at, month_at, day_of_month_at}
use Rattle.cal_time.specs.Lengths.{days_in_month}

-- The number of the month of day n: 12 times the year, plus the month, less 1.
abbrev pub month_number_at : ℕ → ℤ
month_number_at n = year_at n *ℤ pos 12 +ℤ pos (month_at n) -ℤ pos 1

-- Day n is in the month with this index, from 0 for January of the first year.
abbrev pub HasMonthIndex : ℕ → ℕ → Type 0
HasMonthIndex index n = pos index ≡ month_number_at n -ℤ first_year *ℤ pos 12

-- z is the number of a month of the range.
pub record IsMonthNumber (z : ℤ) : Type 0 where
  pub not_before : (first_year *ℤ pos 12) ≤ℤ z
  pub not_after : z <ℤ ((last_year +ℤ pos 1) *ℤ pos 12)

-- Day r is `months` months after day n: it is in the month with this number, on the same day of the
-- month, or on the last day of a shorter month.
pub record IsMonthsLater (n : ℕ) (months : ℤ) (r : ℕ) : Type 0 where
  pub month : month_number_at r ≡ month_number_at n +ℤ months
  pub day : day_of_month_at r ≡ min (day_of_month_at n) (days_in_month (year_at r) (month_at r))

-- The quarter of day n, from 1 to 4, with three months each.
abbrev pub quarter_at : ℕ → ℕ
quarter_at n = (month_at n + 2) / 3
