-- Dates and moments in text, in the four forms of a date and the two forms of a moment.
use Rattle.std.specs.Prelude.{◌≡◌, ◌⊎◌, ℕ, ℤ, List}
use Rattle.cal_time.specs.Date.{IsDate}
use Rattle.cal_time.specs.DateText.{text}
use Rattle.cal_time.specs.declared.error.ComponentRange.{ComponentRange}
use Rattle.cal_datetime.specs.OffsetDateTime.{LocalAndOffset}
use Rattle.cal_text.specs.declared.any.DateOrMoment.{DateOrMoment}
use Rattle.cal_text.specs.declared.any.DateOrMoment.TheVariants.{Date, Moment}
use Rattle.cal_text.specs.declared.any.DateForm.{DateForm}
use Rattle.cal_text.specs.declared.any.DateForm.TheVariants as date_form
use Rattle.cal_text.specs.declared.any.MomentForm.{MomentForm}
use Rattle.cal_text.specs.declared.any.MomentForm.TheVariants.{Rfc3339, Unix}
use Rattle.cal_text.specs.declared.date_numbers.DateNumbers.{DateNumbers}
use Rattle.cal_text.specs.declared.date_numbers.DateNumbers.TheVariants as numbers
use Rattle.cal_text.specs.declared.rfc3339.numbers.Numbers.{Numbers}
use Rattle.cal_text.specs.DateForms.{ordinal_text, week_text, HasForm}
use Rattle.cal_text.specs.JulianForm.{julian_text, IsJulianForm, IsJulianDayError}
use Rattle.cal_text.specs.Parsing.{HasError, IsDateError}
use Rattle.cal_text.specs.Rfc3339Form.{IsMomentText, HasMomentForm, IsMomentError}
use Rattle.cal_text.specs.UnixText.{IsUnixText, HasUnixForm, IsUnixTimeError}

-- The text of day n in a form.
abbrev pub date_text : DateForm → ℕ → List ℕ
date_text date_form.Calendar n = text n
date_text date_form.Ordinal n = ordinal_text n
date_text date_form.Week n = week_text n
date_text date_form.JulianDay n = julian_text n

-- The bytes are a text of the moment m in this form.
abbrev pub IsTextOfMoment : List ℕ → MomentForm → LocalAndOffset → Type 0
IsTextOfMoment bytes Rfc3339 m = IsMomentText bytes m
IsTextOfMoment bytes Unix m = IsUnixText bytes m

-- The bytes are a text of this date or moment in its form.
abbrev pub IsTextOf : List ℕ → DateOrMoment → Type 0
IsTextOf bytes (Date form n) = IsDate n × (bytes ≡ date_text form n)
IsTextOf bytes (Moment form m) = IsTextOfMoment bytes form m

-- The name of a form of ISO 8601.
abbrev pub date_form_of : DateNumbers → DateForm
date_form_of (numbers.Calendar y m d) = date_form.Calendar
date_form_of (numbers.Ordinal y o) = date_form.Ordinal
date_form_of (numbers.Week y w d) = date_form.Week

-- The bytes have one of the six forms, with any numbers.
abbrev pub HasAnyForm : List ℕ → Type 0
HasAnyForm bytes =
    ((f : DateNumbers) × HasForm bytes f) ⊎ ((j : ℤ) × IsJulianForm bytes j) ⊎ ((m : Numbers) × HasMomentForm bytes m) ⊎ ((v : ℤ) × HasUnixForm bytes v)

-- The bytes have a form whose first component out of range has this error.
abbrev pub IsDateOrMomentError : List ℕ → ComponentRange → Type 0
IsDateOrMomentError bytes why =
    HasError HasForm IsDateError bytes why ⊎ HasError IsJulianForm IsJulianDayError bytes why
    ⊎ HasError HasMomentForm IsMomentError bytes why ⊎ HasError HasUnixForm IsUnixTimeError bytes why
