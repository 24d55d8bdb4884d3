-- Strings for C, and the results of parsing.
use Rattle.std.specs.Prelude.{◌≡◌, ◌⊎◌, ℕ, ◌-◌, ◌<◌, ℤ, List, ◌++◌, length, replicate}
use Rattle.cal_time.specs.Date.{julian_day_at}
use Rattle.cal_time.specs.Month.{month_of_index, name}
use Rattle.cal_time.specs.Weekday as weekdays
use Rattle.cal_time.specs.declared.error.ComponentRange.{ComponentRange}
use Rattle.cal_datetime.specs.DateTime.{date_at, time_at}
use Rattle.cal_datetime.specs.OffsetDateTime.{LocalAndOffset}
use Rattle.cal_text.specs.DateForms.{HasForm}
use Rattle.cal_text.specs.Position.{HasSome, IsPosition}
use Rattle.cal_text.specs.Parsing.{HasError, IsDateError}
use Rattle.cal_text.specs.Rfc3339Form.{HasMomentForm, IsMomentError}
use Rattle.cal_c.specs.Results.{no_value}
use Rattle.cal_c.specs.declared.status.TheConstants.{OK, UNEXPECTED_BYTE, UNEXPECTED_END}
use Rattle.cal_c.specs.declared.texts.TextResult.{TextResult}
use Rattle.cal_c.specs.declared.texts.ParseDateResult.{ParseDateResult}
use Rattle.cal_c.specs.declared.texts.ParseMomentResult.{ParseMomentResult}

-- ---- strings
-- The result with a string, filled with zeros up to 40 bytes.
abbrev pub text_ok : List ℕ → TextResult
text_ok text = record { status = OK; length = length text; bytes = text ++ replicate (40 - length text) 0 }

abbrev pub text_error : ℤ → TextResult
text_error s = record { status = s; length = 0; bytes = replicate 40 0 }

-- The English name of a month, by its number.
abbrev pub month_name : ℕ → List ℕ
month_name m = name (month_of_index (m - 1))

-- The English name of a weekday, by its number.
abbrev pub weekday_name : ℕ → List ℕ
weekday_name w = weekdays.name (weekdays.weekday_of_index (w - 1))

-- ---- forms
-- The bytes have a form of a date, with any numbers.
abbrev pub HasDateSyntax : List ℕ → Type 0
HasDateSyntax bytes = HasSome HasForm bytes

-- The bytes have the form of a moment, with any numbers.
abbrev pub HasMomentSyntax : List ℕ → Type 0
HasMomentSyntax bytes = HasSome HasMomentForm bytes

-- The bytes have a form of a date with this error.
abbrev pub HasDateError : List ℕ → ComponentRange → Type 0
HasDateError bytes why = HasError HasForm IsDateError bytes why

-- The bytes have the form of a moment with this error.
abbrev pub HasMomentError : List ℕ → ComponentRange → Type 0
HasMomentError bytes why = HasError HasMomentForm IsMomentError bytes why

-- The bytes stop matching the form at this position. The status says if there is a wrong byte or
-- the end.
pub record StopsAt (IsText : List ℕ → Type 0) (bytes : List ℕ) (at : ℕ) (s : ℤ) : Type 0 where
  pub position : IsPosition IsText bytes at
  pub status : ((s ≡ UNEXPECTED_BYTE) × (at < length bytes)) ⊎ ((s ≡ UNEXPECTED_END) × (at ≡ length bytes))

-- The result is an error at the position at which the bytes stop matching the form.
abbrev pub IsSyntaxError : {R : Type 0} → (List ℕ → Type 0) → List ℕ → (ℤ → ℕ → R) → R → Type 0
IsSyntaxError IsText bytes error_at r = (at : ℕ) × (s : ℤ) × StopsAt IsText bytes at s × (r ≡ error_at s at)

-- ---- results of parsing: the position is the maximum u64 if the bytes have the form
abbrev pub no_position : ℕ
no_position = 18_446_744_073_709_551_615

abbrev pub parsed_date_ok : ℕ → ParseDateResult
parsed_date_ok n = record { status = OK; date = julian_day_at n; position = no_position }

abbrev pub parsed_date_error_at : ℤ → ℕ → ParseDateResult
parsed_date_error_at s at = record { status = s; date = no_value; position = at }

abbrev pub parsed_date_error : ℤ → ParseDateResult
parsed_date_error s = parsed_date_error_at s no_position

abbrev pub parsed_moment_ok : LocalAndOffset → ParseMomentResult
parsed_moment_ok m =
    record { status = OK; date = julian_day_at (date_at m.local); time = time_at m.local; offset = m.offset; unused = 0; position = no_position }

abbrev pub parsed_moment_error_at : ℤ → ℕ → ParseMomentResult
parsed_moment_error_at s at = record { status = s; date = no_value; time = 18_446_744_073_709_551_615; offset = no_value; unused = 0; position = at }

abbrev pub parsed_moment_error : ℤ → ParseMomentResult
parsed_moment_error s = parsed_moment_error_at s no_position
