-- The form of a time of day in ISO 8601-1, 5.3. Its numbers need not be in range.
use Rattle.std.specs.Prelude.{◌≡◌, ◌⊎◌, ℕ, List, ◌∷◌, ◌++◌}
use Rattle.cal_text.specs.declared.time.numbers.TimeNumbers.{TimeNumbers}
use Rattle.cal_text.specs.TimeForm.{IsTimeOf}
use Rattle.cal_iso.specs.ClockForm.{IsAfterHour, IsIsoFraction}
use Rattle.cal_iso.specs.DateForm.{IsNumber}

-- The bytes have the form of a time of day with the numbers t: two digits of the hour, and perhaps
-- minutes and seconds.
pub record HasIsoClock (bytes : List ℕ) (t : TimeNumbers) : Type 0 where
  pub hour : List ℕ
  pub rest : List ℕ
  pub is_hour : IsNumber 2 hour t.hour
  pub is_rest : IsAfterHour IsIsoFraction rest t.minute t.second t.nanosecond
  pub bytes_are : bytes ≡ hour ++ rest

-- A time of day alone may have the letter T before it.
abbrev pub HasIsoTime : List ℕ → TimeNumbers → Type 0
HasIsoTime bytes t = HasIsoClock bytes t ⊎ ((rest : List ℕ) × HasIsoClock rest t × ((bytes ≡ 84 ∷ rest) ⊎ (bytes ≡ 116 ∷ rest)))

-- The bytes are a text of this time of day.
abbrev pub IsIsoTimeText : List ℕ → ℕ → Type 0
IsIsoTimeText bytes time = (t : TimeNumbers) × HasIsoTime bytes t × IsTimeOf t time
