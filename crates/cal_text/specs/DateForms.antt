-- The three texts of a day (ISO 8601, extended formats): calendar date, ordinal date and week date.
-- A form of these texts has numbers that need not be in range.
use Rattle.std.specs.Prelude.{◌≡◌, ◌⊎◌, ℕ, ◌+◌, ◌^◌, ◌<◌, ◌≤◌, ℤ, List, ◌++◌, codes, unsigned_abs}
use Rattle.cal_time.specs.Date.{year_at, ordinal_at, weekday_at}
use Rattle.cal_time.specs.DateText.{digits_at_least, text}
pub use Rattle.cal_time.specs.DateText.{year_text}
use Rattle.cal_time.specs.IsoWeekDate.{iso_year_at, iso_week_at}
use Rattle.cal_text.specs.declared.date_numbers.DateNumbers.{DateNumbers}
use Rattle.cal_text.specs.declared.date_numbers.DateNumbers.TheVariants.{Calendar, Ordinal, Week}

-- The text after the year and a hyphen: a month and a day, an ordinal, or a week and a weekday.
abbrev pub month_and_day_text : ℕ → ℕ → List ℕ
month_and_day_text m d = digits_at_least 2 m ++ codes "-" ++ digits_at_least 2 d

abbrev pub ordinal_digits : ℕ → List ℕ
ordinal_digits o = digits_at_least 3 o

abbrev pub week_and_weekday_text : ℕ → ℕ → List ℕ
week_and_weekday_text w d = codes "W" ++ digits_at_least 2 w ++ codes "-" ++ digits_at_least 1 d

-- The text of day n as an ordinal date.
abbrev pub ordinal_text : ℕ → List ℕ
ordinal_text n = year_text (year_at n) ++ codes "-" ++ ordinal_digits (ordinal_at n)

-- The text of day n as a week date. Weekdays are numbered from 1, Monday, to 7, Sunday.
abbrev pub week_text : ℕ → List ℕ
week_text n = year_text (iso_year_at n) ++ codes "-" ++ week_and_weekday_text (iso_week_at n) (weekday_at n + 1)

-- The bytes are one of the three texts of day n.
abbrev pub IsDateText : List ℕ → ℕ → Type 0
IsDateText bytes n = (bytes ≡ text n) ⊎ (bytes ≡ ordinal_text n) ⊎ (bytes ≡ week_text n)

-- ---- forms
-- A year in text has at most nine digits.
abbrev pub IsPrintableYear : ℤ → Type 0
IsPrintableYear y = unsigned_abs y < 10 ^ 9

-- The year of a form.
abbrev pub form_year : DateNumbers → ℤ
form_year (Calendar y m d) = y
form_year (Ordinal y o) = y
form_year (Week y w d) = y

-- The text of a form after the year and a hyphen.
abbrev pub form_rest : DateNumbers → List ℕ
form_rest (Calendar y m d) = month_and_day_text m d
form_rest (Ordinal y o) = ordinal_digits o
form_rest (Week y w d) = week_and_weekday_text w d

-- The text of a form.
abbrev pub form_text : DateNumbers → List ℕ
form_text f = year_text (form_year f) ++ codes "-" ++ form_rest f

-- Each number has at most as many digits as the form has for it, and the weekday is from 1 to 7.
abbrev pub DigitsFit : DateNumbers → Type 0
DigitsFit (Calendar y m d) = IsPrintableYear y × (m < 100) × (d < 100)
DigitsFit (Ordinal y o) = IsPrintableYear y × (o < 1000)
DigitsFit (Week y w d) = IsPrintableYear y × (w < 100) × (1 ≤ d) × (d ≤ 7)

-- The bytes have the form f.
pub record HasForm (bytes : List ℕ) (f : DateNumbers) : Type 0 where
  pub form : DigitsFit f
  pub bytes_are : bytes ≡ form_text f
