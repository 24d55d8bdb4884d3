-- The text of a date: its year, month and day (ISO 8601 calendar date, extended format, with a sign
-- if the year is not from 0 to 9999).
use Rattle.std.specs.Prelude.{ℕ, ◌++◌, unsigned_abs, List, codes}
use Rattle.cal_date.specs.Date.{year_at, month_at, day_of_month_at}
pub use Rattle.cal_units.specs.Digits.{digits_at_least}
pub use Rattle.cal_units.specs.YearText.{sign_text, year_text}

-- The digits of a date: four or more for the year, and two each for the month and the day.
abbrev pub date_digits : ℕ → ℕ → ℕ → List ℕ
date_digits y m d = digits_at_least 4 y ++ codes "-" ++ digits_at_least 2 m ++ codes "-" ++ digits_at_least 2 d

-- The text of day n: the sign of its year, and its digits.
abbrev pub text : ℕ → List ℕ
text n = sign_text (year_at n) ++ date_digits (unsigned_abs (year_at n)) (month_at n) (day_of_month_at n)
