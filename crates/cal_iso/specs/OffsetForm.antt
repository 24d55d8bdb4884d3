-- The form of an offset from UTC in ISO 8601-1 (UTC designator, or time shift), in the extended and
-- in the basic format. Its numbers need not be in range.
use Rattle.std.specs.Prelude.{◌≡◌, ◌⊎◌, ℕ, false, List, ◌∷◌, ◌++◌, codes}
use Rattle.cal_text.specs.declared.offset.numbers.OffsetNumbers.{OffsetNumbers}
use Rattle.cal_text.specs.OffsetForm.{utc}
use Rattle.cal_text.specs.Rfc3339Form.{sign_byte}
use Rattle.cal_iso.specs.ClockForm.{HasTail, IsAfterHour}
use Rattle.cal_iso.specs.DateForm.{IsNumber}

-- A sign, two digits of the hours, and perhaps minutes and seconds.
pub record IsShift (bytes : List ℕ) (o : OffsetNumbers) : Type 0 where
  pub hours : List ℕ
  pub rest : List ℕ
  pub is_hours : IsNumber 2 hours o.hours
  pub is_rest : IsAfterHour (HasTail false) rest o.minutes o.seconds 0
  pub bytes_are : bytes ≡ sign_byte o.is_negative ∷ (hours ++ rest)

-- The bytes have the form of an offset with the numbers o: Z or z for UTC, or a shift.
abbrev pub HasIsoOffset : List ℕ → OffsetNumbers → Type 0
HasIsoOffset bytes o = ((o ≡ utc) × ((bytes ≡ codes "Z") ⊎ (bytes ≡ codes "z"))) ⊎ IsShift bytes o

-- It may have a space before it.
abbrev pub IsSpacedOffset : List ℕ → OffsetNumbers → Type 0
IsSpacedOffset bytes o = HasIsoOffset bytes o ⊎ ((offset : List ℕ) × HasIsoOffset offset o × (bytes ≡ 32 ∷ offset))
