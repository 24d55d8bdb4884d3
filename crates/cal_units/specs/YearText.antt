-- The text of a year (ISO 8601, with a sign if the year is not from 0 to 9999).
use Rattle.std.specs.Prelude.{ℤ, pos, ◌++◌, unsigned_abs, List, [], codes, ℕ, if◌then◌else◌, int_lt}
use Rattle.cal_units.specs.Digits.{digits_at_least}

-- The sign of a year: minus for a negative year, plus for a year above 9999, else none.
abbrev pub sign_text : ℤ → List ℕ
sign_text y = if int_lt y (pos 0) then codes "-" else (if int_lt (pos 9999) y then codes "+" else [])

-- The text of a year: its sign and four or more digits.
abbrev pub year_text : ℤ → List ℕ
year_text y = sign_text y ++ digits_at_least 4 (unsigned_abs y)
