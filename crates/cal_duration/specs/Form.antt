-- The form of a duration in text: numbers with letters (ISO 8601-1, duration by its components;
-- ISO 8601-2 for the sign and for weeks beside other parts). The numbers need not be in range.
use Rattle.std.specs.Prelude.{◌≡◌, ◌⊎◌, ℕ, ◌-◌, ◌<◌, ◌≤◌, ◌^◌, min, Bool, List, [], ◌∷◌, ◌++◌, codes, length, if◌then◌else◌}
use Rattle.std.specs.Str.Parse.{AllDigits, digits_value}
use Rattle.cal_text.specs.Rfc3339Form.{nanoseconds_of}
use Rattle.cal_duration.specs.declared.numbers.DateNumbers.{DateNumbers}
use Rattle.cal_duration.specs.declared.numbers.TimeNumbers.{TimeNumbers}
use Rattle.cal_duration.specs.declared.numbers.Numbers.{Numbers}

-- ---- parts
-- One digit or more are the number n. A number above 2 ^ 64 - 1 counts as this one, which is out of
-- every range.
pub record IsNumber (digits : List ℕ) (n : ℕ) : Type 0 where
  pub all : AllDigits 10 digits
  pub some : 0 < length digits
  pub value : n ≡ min (digits_value 10 digits) (2 ^ 64 - 1)

-- A part is a number and its letter. A part that is left out counts 0.
abbrev pub IsPart : ℕ → List ℕ → ℕ → Type 0
IsPart letter bytes n = ((bytes ≡ []) × (n ≡ 0)) ⊎ ((digits : List ℕ) × IsNumber digits n × (bytes ≡ digits ++ letter ∷ []))

-- A fraction of a second is a point or a comma and at most nine digits.
pub record IsDecimals (bytes : List ℕ) (n : ℕ) : Type 0 where
  pub mark : ℕ
  pub digits : List ℕ
  pub is_mark : (mark ≡ 46) ⊎ (mark ≡ 44)
  pub all : AllDigits 10 digits
  pub some : 0 < length digits
  pub few : length digits ≤ 9
  pub value : n ≡ nanoseconds_of digits
  pub bytes_are : bytes ≡ mark ∷ digits

-- It may be left out.
abbrev pub IsFraction : List ℕ → ℕ → Type 0
IsFraction bytes n = ((bytes ≡ []) × (n ≡ 0)) ⊎ IsDecimals bytes n

-- A number, a fraction of n nanoseconds and the letter S.
pub record HasSeconds (bytes : List ℕ) (s n : ℕ) : Type 0 where
  pub digits : List ℕ
  pub fraction : List ℕ
  pub is_number : IsNumber digits s
  pub is_fraction : IsFraction fraction n
  pub bytes_are : bytes ≡ digits ++ (fraction ++ 83 ∷ [])

-- The bytes after the digits of the seconds.
abbrev pub IsSecondsEnd : List ℕ → ℕ → Type 0
IsSecondsEnd bytes n = (fraction : List ℕ) × IsFraction fraction n × (bytes ≡ fraction ++ 83 ∷ [])

-- The seconds may be left out.
abbrev pub AreSeconds : List ℕ → ℕ → ℕ → Type 0
AreSeconds bytes s n = ((bytes ≡ []) × (s ≡ 0) × (n ≡ 0)) ⊎ HasSeconds bytes s n

-- Years, months, weeks and days.
pub record HasDate (bytes : List ℕ) (m : DateNumbers) : Type 0 where
  pub years : List ℕ
  pub months : List ℕ
  pub weeks : List ℕ
  pub days : List ℕ
  pub are_years : IsPart 89 years m.years
  pub are_months : IsPart 77 months m.months
  pub are_weeks : IsPart 87 weeks m.weeks
  pub are_days : IsPart 68 days m.days
  pub bytes_are : bytes ≡ years ++ (months ++ (weeks ++ days))

-- Hours, minutes and seconds.
pub record HasClock (bytes : List ℕ) (m : TimeNumbers) : Type 0 where
  pub hours : List ℕ
  pub minutes : List ℕ
  pub seconds : List ℕ
  pub are_hours : IsPart 72 hours m.hours
  pub are_minutes : IsPart 77 minutes m.minutes
  pub are_seconds : AreSeconds seconds m.seconds m.nanoseconds
  pub bytes_are : bytes ≡ hours ++ (minutes ++ seconds)

-- The same, with at least one of them.
abbrev pub HasTime : List ℕ → TimeNumbers → Type 0
HasTime bytes m = HasClock bytes m × (0 < length bytes)

-- The letter T and hours, minutes and seconds, or nothing.
abbrev pub no_time : TimeNumbers
no_time = record { hours = 0; minutes = 0; seconds = 0; nanoseconds = 0 }

abbrev pub HasTimeOrNone : List ℕ → TimeNumbers → Type 0
HasTimeOrNone bytes m = ((bytes ≡ []) × (m ≡ no_time)) ⊎ ((rest : List ℕ) × HasTime rest m × (bytes ≡ 84 ∷ rest))

-- ---- the whole
-- A minus sign, or nothing.
abbrev pub sign_text : Bool → List ℕ
sign_text is_negative = if is_negative then codes "-" else []

-- The bytes after the letter P: a date and a time, with at least one part.
pub record HasBody (bytes : List ℕ) (d : DateNumbers) (t : TimeNumbers) : Type 0 where
  pub date : List ℕ
  pub time : List ℕ
  pub has_date : HasDate date d
  pub has_time : HasTimeOrNone time t
  pub some : 0 < length bytes
  pub bytes_are : bytes ≡ date ++ time

-- The bytes have the form of a period with the numbers m.
pub record HasPeriodForm (bytes : List ℕ) (m : Numbers) : Type 0 where
  pub rest : List ℕ
  pub has_body : HasBody rest m.date m.time
  pub bytes_are : bytes ≡ sign_text m.is_negative ++ 80 ∷ rest

-- The bytes have the form of an exact duration: a period without years, months, weeks and days.
abbrev pub no_date : DateNumbers
no_date = record { years = 0; months = 0; weeks = 0; days = 0 }

pub record HasDurationForm (bytes : List ℕ) (m : Numbers) : Type 0 where
  pub exact : m.date ≡ no_date
  pub rest : List ℕ
  pub has_time : HasTime rest m.time
  pub bytes_are : bytes ≡ sign_text m.is_negative ++ 80 ∷ 84 ∷ rest
