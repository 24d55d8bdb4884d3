-- The form of a time of day in text (a local time of day of ISO 8601, in the extended format), with
-- an hour of one or two digits. Its numbers need not be in range.
use Rattle.std.specs.Prelude.{◌≡◌, ◌⊎◌, ℕ, ◌<◌, ◌≤◌, ◌∷◌, List, [], ◌++◌, length}
use Rattle.std.specs.Str.Parse.{AllDigits, digits_value}
use Rattle.cal_time.specs.DateText.{digits_at_least}
use Rattle.cal_time.specs.Time.{time_of, hour_out_of_range, minute_out_of_range, second_out_of_range}
use Rattle.cal_time.specs.declared.error.ComponentRange.{ComponentRange}
use Rattle.cal_text.specs.declared.time.numbers.TimeNumbers.{TimeNumbers}
use Rattle.cal_text.specs.Rfc3339Form.{IsFraction}

-- ---- parts
-- One or two digits are the hour h.
pub record IsHour (digits : List ℕ) (h : ℕ) : Type 0 where
  pub all : AllDigits 10 digits
  pub some : 1 ≤ length digits
  pub few : length digits ≤ 2
  pub value : h ≡ digits_value 10 digits

-- A colon, two digits of the second s, and a fraction of at most nine digits.
pub record IsSecond (bytes : List ℕ) (s n : ℕ) : Type 0 where
  pub second : s < 100
  pub fraction : List ℕ
  pub is_fraction : IsFraction fraction n
  pub short : length fraction ≤ 10
  pub bytes_are : bytes ≡ 58 ∷ (digits_at_least 2 s ++ fraction)

-- The bytes after the minute: none for the second 0, or a second.
abbrev pub IsAfterMinute : List ℕ → ℕ → ℕ → Type 0
IsAfterMinute bytes s n = ((bytes ≡ []) × (s ≡ 0) × (n ≡ 0)) ⊎ IsSecond bytes s n

-- ---- the whole
-- The bytes have the form of a time of day with the numbers t.
pub record HasTimeForm (bytes : List ℕ) (t : TimeNumbers) : Type 0 where
  pub hour : List ℕ
  pub rest : List ℕ
  pub is_hour : IsHour hour t.hour
  pub minute : t.minute < 100
  pub is_rest : IsAfterMinute rest t.second t.nanosecond
  pub bytes_are : bytes ≡ hour ++ 58 ∷ (digits_at_least 2 t.minute ++ rest)

-- ---- the time of day that has the numbers
-- The time of day `time` has the numbers t.
pub record IsTimeOf (t : TimeNumbers) (time : ℕ) : Type 0 where
  pub hour : t.hour ≤ 23
  pub minute : t.minute ≤ 59
  pub second : t.second ≤ 59
  pub value : time ≡ time_of t.hour t.minute t.second t.nanosecond

-- The bytes are a text of this time of day.
abbrev pub IsTimeText : List ℕ → ℕ → Type 0
IsTimeText bytes time = (t : TimeNumbers) × HasTimeForm bytes t × IsTimeOf t time

-- The error of the first component out of range.
abbrev pub IsTimeError : TimeNumbers → ComponentRange → Type 0
IsTimeError t why =
    ((why ≡ hour_out_of_range) × (23 < t.hour)) ⊎ ((why ≡ minute_out_of_range) × ((t.hour ≤ 23) × (59 < t.minute)))
    ⊎ ((why ≡ second_out_of_range) × ((t.hour ≤ 23) × (t.minute ≤ 59) × (59 < t.second)))
