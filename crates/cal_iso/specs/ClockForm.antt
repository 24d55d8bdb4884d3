-- Minutes and seconds after an hour (ISO 8601-1, 5.3), with colons in the extended format and
-- without them in the basic format. Both may be left out.
use Rattle.std.specs.Prelude.{◌≡◌, ◌⊎◌, ℕ, ◌<◌, Bool, true, false, List, [], ◌∷◌, ◌++◌, length, drop}
use Rattle.std.specs.Str.Parse.{AllDigits}
use Rattle.cal_text.specs.Rfc3339Form.{nanoseconds_of}
use Rattle.cal_iso.specs.DateForm.{IsNumber}

-- ---- fractions
-- Each byte is the digit 0.
abbrev pub AllZeros : List ℕ → Type 0
AllZeros [] = Unit {0}
AllZeros (x ∷ xs) = (x ≡ 48) × AllZeros xs

-- One digit or more of a decimal fraction, of n nanoseconds. Those after the ninth are zeros.
pub record IsDecimals (digits : List ℕ) (n : ℕ) : Type 0 where
  pub all : AllDigits 10 digits
  pub some : 0 < length digits
  pub exact : AllZeros (drop 9 digits)
  pub value : n ≡ nanoseconds_of digits

-- A fraction is empty, or a point or a comma and decimals.
abbrev pub IsIsoFraction : List ℕ → ℕ → Type 0
IsIsoFraction bytes n =
    ((bytes ≡ []) × (n ≡ 0)) ⊎ ((digits : List ℕ) × IsDecimals digits n × ((bytes ≡ 46 ∷ digits) ⊎ (bytes ≡ 44 ∷ digits)))

-- The bytes after the seconds: a fraction in a time of day, and nothing in an offset.
abbrev pub HasTail : Bool → List ℕ → ℕ → Type 0
HasTail true bytes n = IsIsoFraction bytes n
HasTail false bytes n = (bytes ≡ []) × (n ≡ 0)

-- ---- minutes and seconds
-- The bytes `mark`, two digits of the seconds s, and a tail with the value n. `IsTail` says what can
-- be a tail.
pub record IsSeconds (IsTail : List ℕ → ℕ → Type 0) (mark bytes : List ℕ) (s n : ℕ) : Type 0 where
  pub digits : List ℕ
  pub tail : List ℕ
  pub is : IsNumber 2 digits s
  pub is_tail : IsTail tail n
  pub bytes_are : bytes ≡ mark ++ (digits ++ tail)

-- They may be left out.
abbrev pub IsSecondsOrNone : (List ℕ → ℕ → Type 0) → List ℕ → List ℕ → ℕ → ℕ → Type 0
IsSecondsOrNone IsTail mark bytes s n = ((bytes ≡ []) × (s ≡ 0) × (n ≡ 0)) ⊎ IsSeconds IsTail mark bytes s n

-- The bytes `mark`, two digits of the minutes m, and perhaps seconds.
pub record IsMinutes (IsTail : List ℕ → ℕ → Type 0) (mark bytes : List ℕ) (m s n : ℕ) : Type 0 where
  pub digits : List ℕ
  pub rest : List ℕ
  pub is : IsNumber 2 digits m
  pub is_rest : IsSecondsOrNone IsTail mark rest s n
  pub bytes_are : bytes ≡ mark ++ (digits ++ rest)

-- Nothing, or minutes and perhaps seconds in one of the formats.
abbrev pub IsAfterHour : (List ℕ → ℕ → Type 0) → List ℕ → ℕ → ℕ → ℕ → Type 0
IsAfterHour IsTail bytes m s n =
    ((bytes ≡ []) × (m ≡ 0) × (s ≡ 0) × (n ≡ 0)) ⊎ IsMinutes IsTail (58 ∷ []) bytes m s n ⊎ IsMinutes IsTail [] bytes m s n
