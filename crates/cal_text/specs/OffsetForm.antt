-- The form of an offset from UTC in text (a time shift of ISO 8601). Its numbers need not be in
-- range.
use Rattle.std.specs.Prelude.{◌≡◌, ◌⊎◌, ℕ, ◌+◌, ◌*◌, ◌<◌, ◌≤◌, ◌∷◌, ℤ, pos, neg_ℤ, false, if◌then◌else◌, List, [], ◌++◌, codes}
use Rattle.cal_time.specs.DateText.{digits_at_least}
use Rattle.cal_time.specs.UtcOffset.{offset_hour_out_of_range, offset_minute_out_of_range, offset_second_out_of_range}
use Rattle.cal_time.specs.declared.error.ComponentRange.{ComponentRange}
use Rattle.cal_text.specs.declared.offset.numbers.OffsetNumbers.{OffsetNumbers}
use Rattle.cal_text.specs.Rfc3339Form.{sign_byte}

-- ---- forms
-- The numbers of Z.
abbrev pub utc : OffsetNumbers
utc = record { is_negative = false; hours = 0; minutes = 0; seconds = 0 }

-- The bytes after the minutes: none for 0 seconds, or a colon and two digits.
abbrev pub IsAfterMinutes : List ℕ → ℕ → Type 0
IsAfterMinutes bytes s = ((bytes ≡ []) × (s ≡ 0)) ⊎ ((s < 100) × (bytes ≡ 58 ∷ digits_at_least 2 s))

-- The bytes are a sign and two digits each of the hours, the minutes and optionally the seconds.
pub record HasSignedForm (bytes : List ℕ) (o : OffsetNumbers) : Type 0 where
  pub hours : o.hours < 100
  pub minutes : o.minutes < 100
  pub rest : List ℕ
  pub is_rest : IsAfterMinutes rest o.seconds
  pub bytes_are : bytes ≡ sign_byte o.is_negative ∷ (digits_at_least 2 o.hours ++ 58 ∷ (digits_at_least 2 o.minutes ++ rest))

-- The bytes have the form of an offset with the numbers o: Z or z for UTC, or a sign and numbers.
abbrev pub HasOffsetForm : List ℕ → OffsetNumbers → Type 0
HasOffsetForm bytes o = ((o ≡ utc) × ((bytes ≡ codes "Z") ⊎ (bytes ≡ codes "z"))) ⊎ HasSignedForm bytes o

-- ---- the offset that has the numbers
-- The total seconds of the numbers, without the sign.
abbrev pub magnitude : OffsetNumbers → ℕ
magnitude o = 3600 * o.hours + 60 * o.minutes + o.seconds

-- The offset in seconds has the numbers o.
pub record IsOffsetOf (o : OffsetNumbers) (offset : ℤ) : Type 0 where
  pub hours : o.hours ≤ 25
  pub minutes : o.minutes ≤ 59
  pub seconds : o.seconds ≤ 59
  pub value : offset ≡ if o.is_negative then neg_ℤ (pos (magnitude o)) else pos (magnitude o)

-- The bytes are a text of this offset.
abbrev pub IsOffsetText : List ℕ → ℤ → Type 0
IsOffsetText bytes offset = (o : OffsetNumbers) × HasOffsetForm bytes o × IsOffsetOf o offset

-- The error of the first component out of range.
abbrev pub IsOffsetError : OffsetNumbers → ComponentRange → Type 0
IsOffsetError o why =
    ((why ≡ offset_hour_out_of_range) × (25 < o.hours)) ⊎ ((why ≡ offset_minute_out_of_range) × ((o.hours ≤ 25) × (59 < o.minutes)))
    ⊎ ((why ≡ offset_second_out_of_range) × ((o.hours ≤ 25) × (o.minutes ≤ 59) × (59 < o.seconds)))
