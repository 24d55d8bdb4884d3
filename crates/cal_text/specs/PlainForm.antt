-- The form of a date-time in text: a date, a separator and a time of day. Its numbers need not be
-- in range.
use Rattle.std.specs.Prelude.{◌≡◌, ◌⊎◌, ℕ, ℤ, ◌∷◌, List, ◌++◌}
use Rattle.cal_time.specs.Date.{IsDate}
use Rattle.cal_time.specs.declared.error.ComponentRange.{ComponentRange}
use Rattle.cal_datetime.specs.DateTime.{IsDateTime, date_at, time_at}
use Rattle.cal_text.specs.declared.date_numbers.DateNumbers.{DateNumbers}
use Rattle.cal_text.specs.declared.plain.numbers.PlainNumbers.{PlainNumbers}
use Rattle.cal_text.specs.DateForms.{HasForm}
use Rattle.cal_text.specs.Parsing.{IsOnDay, IsDateError}
use Rattle.cal_text.specs.Rfc3339Form.{IsSeparator}
use Rattle.cal_text.specs.TimeForm.{HasTimeForm, IsTimeOf, IsTimeError}

-- The bytes have the form of a date-time with the numbers p.
pub record HasPlainForm (bytes : List ℕ) (p : PlainNumbers) : Type 0 where
  pub date : List ℕ
  pub separator : ℕ
  pub time : List ℕ
  pub has_date : HasForm date p.date
  pub is_separator : IsSeparator separator
  pub has_time : HasTimeForm time p.time
  pub bytes_are : bytes ≡ date ++ separator ∷ time

-- The date-time `at` has the numbers p.
pub record IsPlainOf (p : PlainNumbers) (at : ℤ) : Type 0 where
  pub in_range : IsDateTime at
  pub date : IsOnDay p.date (date_at at)
  pub time : IsTimeOf p.time (time_at at)

-- A date-time has the numbers.
abbrev pub HasPlain : PlainNumbers → Type 0
HasPlain p = (at : ℤ) × IsPlainOf p at

-- The bytes are a text of this date-time.
abbrev pub IsPlainText : List ℕ → ℤ → Type 0
IsPlainText bytes at = (p : PlainNumbers) × HasPlainForm bytes p × IsPlainOf p at

-- A day of the range has the numbers of the form.
abbrev pub HasDate : DateNumbers → Type 0
HasDate form = (n : ℕ) × IsDate n × IsOnDay form n

-- The error of the first component out of range: of the date, then of the time of day.
abbrev pub IsPlainError : PlainNumbers → ComponentRange → Type 0
IsPlainError p why = IsDateError p.date why ⊎ (HasDate p.date × IsTimeError p.time why)
