-- The forms of date-times in ISO 8601-1, 5.4: a date and a time of day with the letter T, t or a
-- space between them, without an offset or with one. Their numbers need not be in range.
use Rattle.std.specs.Prelude.{◌≡◌, ◌⊎◌, ℕ, ℤ, List, [], ◌∷◌, ◌++◌}
use Rattle.cal_datetime.specs.OffsetDateTime.{LocalAndOffset}
use Rattle.cal_text.specs.declared.time.numbers.TimeNumbers.{TimeNumbers}
use Rattle.cal_text.specs.declared.plain.numbers.PlainNumbers.{PlainNumbers}
use Rattle.cal_text.specs.declared.offset_date_time.numbers.OffsetDateTimeNumbers.{OffsetDateTimeNumbers}
use Rattle.cal_text.specs.OffsetDateTimeForm.{IsOffsetDateTimeOf}
use Rattle.cal_text.specs.PlainForm.{IsPlainOf}
use Rattle.cal_text.specs.Rfc3339Form.{IsSeparator}
use Rattle.cal_iso.specs.DateForm.{HasIsoDate}
use Rattle.cal_iso.specs.OffsetForm.{IsSpacedOffset}
use Rattle.cal_iso.specs.TimeForm.{HasIsoClock}

-- The bytes are a date, a separator and a time of day.
pub record HasIsoDateTime (bytes : List ℕ) (p : PlainNumbers) : Type 0 where
  pub date : List ℕ
  pub separator : ℕ
  pub time : List ℕ
  pub has_date : HasIsoDate date p.date
  pub is_separator : IsSeparator separator
  pub has_time : HasIsoClock time p.time
  pub bytes_are : bytes ≡ date ++ separator ∷ time

-- The numbers of midnight.
abbrev pub midnight : TimeNumbers
midnight = record { hour = 0; minute = 0; second = 0; nanosecond = 0 }

-- A separator and a time of day, or nothing for midnight.
abbrev pub IsTimeOrMidnight : List ℕ → TimeNumbers → Type 0
IsTimeOrMidnight bytes t =
    ((bytes ≡ []) × (t ≡ midnight)) ⊎ ((s : ℕ) × (rest : List ℕ) × IsSeparator s × HasIsoClock rest t × (bytes ≡ s ∷ rest))

-- The bytes have the form of a local date-time with the numbers p. A date alone is its midnight.
abbrev pub HasIsoPlain : List ℕ → PlainNumbers → Type 0
HasIsoPlain bytes p = HasIsoDateTime bytes p ⊎ (HasIsoDate bytes p.date × (p.time ≡ midnight))

-- The bytes have the form of a date-time at an offset with the numbers m.
pub record HasIsoMoment (bytes : List ℕ) (m : OffsetDateTimeNumbers) : Type 0 where
  pub local : List ℕ
  pub offset : List ℕ
  pub has_local : HasIsoDateTime local m.local
  pub has_offset : IsSpacedOffset offset m.offset
  pub bytes_are : bytes ≡ local ++ offset

-- The bytes are a text of this local date-time, or of this date-time at an offset.
abbrev pub IsIsoPlainText : List ℕ → ℤ → Type 0
IsIsoPlainText bytes at = (p : PlainNumbers) × HasIsoPlain bytes p × IsPlainOf p at

abbrev pub IsIsoMomentText : List ℕ → LocalAndOffset → Type 0
IsIsoMomentText bytes at = (m : OffsetDateTimeNumbers) × HasIsoMoment bytes m × IsOffsetDateTimeOf m at
