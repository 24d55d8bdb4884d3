-- The order of the components of days, compared from the left.
use Rattle.std.specs.Prelude.{◌≡◌, ℕ, ◌⊎◌, ℤ, pos, ◌<ℤ◌, List, [], ◌∷◌}
use Rattle.cal_date.specs.Date.{year_at, month_at, day_of_month_at, ordinal_at, weekday_at}
use Rattle.cal_date.specs.IsoWeekDate.{iso_year_at, iso_week_at}

-- A list is before another if the first number that differs is less.
abbrev pub IsBefore : List ℤ → List ℤ → Type 0
IsBefore [] ys = ⊥
IsBefore (x ∷ xs) [] = ⊥
IsBefore (x ∷ xs) (y ∷ ys) = (x <ℤ y) ⊎ ((x ≡ y) × IsBefore xs ys)

-- The year and the ordinal of day n.
abbrev pub ordinal_date_at : ℕ → List ℤ
ordinal_date_at n = year_at n ∷ pos (ordinal_at n) ∷ []

-- The year, the month and the day of the month of day n.
abbrev pub calendar_date_at : ℕ → List ℤ
calendar_date_at n = year_at n ∷ pos (month_at n) ∷ pos (day_of_month_at n) ∷ []

-- The ISO year, the ISO week and the weekday of day n, from 0 for Monday to 6 for Sunday.
abbrev pub iso_week_date_at : ℕ → List ℤ
iso_week_date_at n = iso_year_at n ∷ pos (iso_week_at n) ∷ pos (weekday_at n) ∷ []
