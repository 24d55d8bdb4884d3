-- The forms of a date in ISO 8601-1, 5.2: calendar, ordinal and week dates, in the extended and in
-- the basic format. Their numbers need not be in range.
use Rattle.std.specs.Prelude.{◌≡◌, ◌⊎◌, ℕ, ◌+◌, ◌≤◌, ℤ, pos, neg_ℤ, Bool, if◌then◌else◌, List, [], ◌∷◌, ◌++◌, length}
use Rattle.std.specs.Str.Parse.{AllDigits, digits_value}
use Rattle.cal_time.specs.Date.{IsDate}
use Rattle.cal_text.specs.declared.date_numbers.DateNumbers.{DateNumbers}
use Rattle.cal_text.specs.declared.date_numbers.DateNumbers.TheVariants.{Calendar, Ordinal, Week}
use Rattle.cal_text.specs.DateForms.{form_year}
use Rattle.cal_text.specs.Parsing.{IsOnDay}
use Rattle.cal_text.specs.Rfc3339Form.{sign_byte}

-- ---- numbers
-- The bytes are k digits, which spell n.
pub record IsNumber (k : ℕ) (bytes : List ℕ) (n : ℕ) : Type 0 where
  pub all : AllDigits 10 bytes
  pub count : length bytes ≡ k
  pub value : n ≡ digits_value 10 bytes

-- A number with its sign.
abbrev pub signed : Bool → ℕ → ℤ
signed is_negative n = if is_negative then neg_ℤ (pos n) else pos n

-- ---- years
-- A year of four digits.
abbrev pub IsFourDigitYear : List ℕ → ℤ → Type 0
IsFourDigitYear bytes y = (n : ℕ) × IsNumber 4 bytes n × (y ≡ pos n)

-- An expanded year: a sign and four to six digits.
pub record IsExpandedYear (bytes : List ℕ) (y : ℤ) : Type 0 where
  pub is_negative : Bool
  pub digits : List ℕ
  pub all : AllDigits 10 digits
  pub least : 4 ≤ length digits
  pub most : length digits ≤ 6
  pub bytes_are : bytes ≡ sign_byte is_negative ∷ digits
  pub value : y ≡ signed is_negative (digits_value 10 digits)

-- ---- what follows a year
-- The weekday after a week: the bytes `mark`, and 1 for Monday to 7 for Sunday. Without it the day
-- is a Monday.
abbrev pub IsWeekday : List ℕ → List ℕ → ℕ → Type 0
IsWeekday mark bytes d = ((bytes ≡ []) × (d ≡ 1)) ⊎ ((1 ≤ d) × (d ≤ 7) × (bytes ≡ mark ++ (48 + d) ∷ []))

-- A month and a day of the month with the bytes `mark` between them.
pub record IsMonthAndDay (mark bytes : List ℕ) (m d : ℕ) : Type 0 where
  pub month : List ℕ
  pub day : List ℕ
  pub is_month : IsNumber 2 month m
  pub is_day : IsNumber 2 day d
  pub bytes_are : bytes ≡ month ++ (mark ++ day)

-- The letter W, a week and perhaps a weekday.
pub record IsWeekAndDay (mark bytes : List ℕ) (w d : ℕ) : Type 0 where
  pub week : List ℕ
  pub weekday : List ℕ
  pub is_week : IsNumber 2 week w
  pub is_weekday : IsWeekday mark weekday d
  pub bytes_are : bytes ≡ 87 ∷ (week ++ weekday)

-- A month and a day, an ordinal, or a week.
abbrev pub IsAfterYear : List ℕ → List ℕ → DateNumbers → Type 0
IsAfterYear mark bytes (Calendar y m d) = IsMonthAndDay mark bytes m d
IsAfterYear mark bytes (Ordinal y o) = IsNumber 3 bytes o
IsAfterYear mark bytes (Week y w d) = IsWeekAndDay mark bytes w d

-- ---- the whole
-- The extended format has a hyphen after the year, and its year may be expanded.
pub record IsExtended (bytes : List ℕ) (f : DateNumbers) : Type 0 where
  pub year : List ℕ
  pub rest : List ℕ
  pub is_year : IsFourDigitYear year (form_year f) ⊎ IsExpandedYear year (form_year f)
  pub is_rest : IsAfterYear (45 ∷ []) rest f
  pub bytes_are : bytes ≡ year ++ 45 ∷ rest

-- The basic format has no hyphens.
pub record IsBasic (bytes : List ℕ) (f : DateNumbers) : Type 0 where
  pub year : List ℕ
  pub rest : List ℕ
  pub is_year : IsFourDigitYear year (form_year f)
  pub is_rest : IsAfterYear [] rest f
  pub bytes_are : bytes ≡ year ++ rest

-- The bytes have the form f.
abbrev pub HasIsoDate : List ℕ → DateNumbers → Type 0
HasIsoDate bytes f = IsExtended bytes f ⊎ IsBasic bytes f

-- Day n has the numbers f.
abbrev pub IsDay : DateNumbers → ℕ → Type 0
IsDay f n = IsDate n × IsOnDay f n

-- The bytes are a text of day n.
abbrev pub IsIsoDateText : List ℕ → ℕ → Type 0
IsIsoDateText bytes n = (f : DateNumbers) × HasIsoDate bytes f × IsDay f n
