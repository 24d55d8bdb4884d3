-- The forms of intervals (ISO 8601-1, 5.5: start and end, start and duration, duration and end) and
-- of repeated intervals (5.6). Their numbers need not be in range.
use Rattle.std.specs.Prelude.{◌≡◌, ℕ, ◌<◌, false, List, [], ◌∷◌, ◌++◌, Option, Some, None}
use Rattle.cal_text.specs.declared.plain.numbers.PlainNumbers.{PlainNumbers}
use Rattle.cal_text.specs.PlainForm.{HasPlainForm}
use Rattle.cal_text.specs.DateForms.{DigitsFit, HasForm}
use Rattle.cal_duration.specs.declared.numbers.Numbers.{Numbers}
use Rattle.cal_duration.specs.Form.{HasPeriodForm, IsNumber}
use Rattle.cal_interval.specs.declared.date.numbers.DateIntervalNumbers.{DateIntervalNumbers}
use Rattle.cal_interval.specs.declared.date.numbers.DateIntervalNumbers.TheVariants as date
use Rattle.cal_interval.specs.declared.plain.numbers.DateTimeIntervalNumbers.{DateTimeIntervalNumbers}
use Rattle.cal_interval.specs.declared.plain.numbers.DateTimeIntervalNumbers.TheVariants as plain

-- Two parts with a solidus between them.
pub record HasParts {V W : Type 0} (Has : List ℕ → V → Type 0) (Has' : List ℕ → W → Type 0) (bytes : List ℕ) (v : V) (w : W) : Type 0 where
  pub front : List ℕ
  pub back : List ℕ
  pub first : Has front v
  pub second : Has' back w
  pub bytes_are : bytes ≡ front ++ 47 ∷ back

-- A period without a sign.
abbrev pub IsUnsigned : List ℕ → Numbers → Type 0
IsUnsigned bytes m = HasPeriodForm bytes m × (m.is_negative ≡ false)

-- The bytes have the form of an interval of dates with the numbers m.
abbrev pub HasDateInterval : List ℕ → DateIntervalNumbers → Type 0
HasDateInterval bytes (date.StartAndEnd a b) = HasParts HasForm HasForm bytes a b
HasDateInterval bytes (date.StartAndPeriod a p) = HasParts HasForm IsUnsigned bytes a p
HasDateInterval bytes (date.PeriodAndEnd p b) = HasParts IsUnsigned HasForm bytes p b

-- Each number of a date has at most as many digits as its form.
abbrev pub DateNumbersFit : DateIntervalNumbers → Type 0
DateNumbersFit (date.StartAndEnd a b) = DigitsFit a × DigitsFit b
DateNumbersFit (date.StartAndPeriod a p) = DigitsFit a
DateNumbersFit (date.PeriodAndEnd p b) = DigitsFit b

-- The bytes have the form of an interval of local date-times with the numbers m.
abbrev pub HasDateTimeInterval : List ℕ → DateTimeIntervalNumbers → Type 0
HasDateTimeInterval bytes (plain.StartAndEnd a b) = HasParts HasPlainForm HasPlainForm bytes a b
HasDateTimeInterval bytes (plain.StartAndPeriod a p) = HasParts HasPlainForm IsUnsigned bytes a p
HasDateTimeInterval bytes (plain.PeriodAndEnd p b) = HasParts IsUnsigned HasPlainForm bytes p b

-- Each number of a date-time has at most as many digits as its form.
abbrev pub PlainFits : PlainNumbers → Type 0
PlainFits p = DigitsFit p.date × (p.time.nanosecond < 1000000000)

abbrev pub PlainNumbersFit : DateTimeIntervalNumbers → Type 0
PlainNumbersFit (plain.StartAndEnd a b) = PlainFits a × PlainFits b
PlainNumbersFit (plain.StartAndPeriod a p) = PlainFits a
PlainNumbersFit (plain.PeriodAndEnd p b) = PlainFits b

-- ---- repeated intervals
-- The digits of a number of occurrences, or none.
abbrev pub IsCount : List ℕ → Option ℕ → Type 0
IsCount digits None = digits ≡ []
IsCount digits (Some n) = IsNumber digits n

-- The letter R, a number of occurrences or none, a solidus and an interval.
pub record HasRepeated {M : Type 0} (HasInterval : List ℕ → M → Type 0) (bytes : List ℕ) (m : Option ℕ × M) : Type 0 where
  pub digits : List ℕ
  pub interval : List ℕ
  pub is_count : IsCount digits m.0
  pub has_interval : HasInterval interval m.1
  pub bytes_are : bytes ≡ 82 ∷ (digits ++ 47 ∷ interval)
