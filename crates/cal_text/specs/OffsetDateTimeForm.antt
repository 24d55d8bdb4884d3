-- The form of a moment in text: a date-time, an optional space, and an offset. Its numbers need not
-- be in range.
use Rattle.std.specs.Prelude.{◌≡◌, ◌⊎◌, ℕ, ◌∷◌, List, ◌++◌}
use Rattle.cal_time.specs.declared.error.ComponentRange.{ComponentRange}
use Rattle.cal_datetime.specs.OffsetDateTime.{LocalAndOffset}
use Rattle.cal_text.specs.declared.offset.numbers.OffsetNumbers.{OffsetNumbers}
use Rattle.cal_text.specs.declared.offset_date_time.numbers.OffsetDateTimeNumbers.{OffsetDateTimeNumbers}
use Rattle.cal_text.specs.OffsetForm.{HasOffsetForm, IsOffsetOf, IsOffsetError}
use Rattle.cal_text.specs.PlainForm.{HasPlainForm, HasPlain, IsPlainOf, IsPlainError}

-- An optional space, and an offset with the numbers o.
abbrev pub IsSpacedOffset : List ℕ → OffsetNumbers → Type 0
IsSpacedOffset bytes o = HasOffsetForm bytes o ⊎ ((offset : List ℕ) × HasOffsetForm offset o × (bytes ≡ 32 ∷ offset))

-- The bytes have the form of a moment with the numbers m.
pub record HasOffsetDateTimeForm (bytes : List ℕ) (m : OffsetDateTimeNumbers) : Type 0 where
  pub local : List ℕ
  pub offset : List ℕ
  pub has_local : HasPlainForm local m.local
  pub has_offset : IsSpacedOffset offset m.offset
  pub bytes_are : bytes ≡ local ++ offset

-- The moment has the numbers m.
pub record IsOffsetDateTimeOf (m : OffsetDateTimeNumbers) (at : LocalAndOffset) : Type 0 where
  pub local : IsPlainOf m.local at.local
  pub offset : IsOffsetOf m.offset at.offset

-- The bytes are a text of this moment.
abbrev pub IsOffsetDateTimeText : List ℕ → LocalAndOffset → Type 0
IsOffsetDateTimeText bytes at = (m : OffsetDateTimeNumbers) × HasOffsetDateTimeForm bytes m × IsOffsetDateTimeOf m at

-- The error of the first component out of range: of the date-time, then of the offset.
abbrev pub IsOffsetDateTimeError : OffsetDateTimeNumbers → ComponentRange → Type 0
IsOffsetDateTimeError m why =
    IsPlainError m.local why ⊎ (HasPlain m.local × IsOffsetError m.offset why)
