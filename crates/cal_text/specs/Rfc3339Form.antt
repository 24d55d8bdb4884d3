-- The form of a moment in text (RFC 3339, internet date and time format). Its numbers need not be
-- in range.
use Rattle.std.specs.Prelude.{◌≡◌, ◌⊎◌, ℕ, ◌+◌, ◌-◌, ◌*◌, ◌^◌, ◌<◌, ◌≤◌, ◌∷◌, ℤ, pos, neg_ℤ, Bool, if◌then◌else◌, List, [], ◌++◌, codes, length, take}
use Rattle.std.specs.Str.Parse.{AllDigits, digits_value}
use Rattle.cal_time.specs.Date.{IsDayOfMonth, HasCalendarDate}
use Rattle.cal_time.specs.DateText.{digits_at_least, date_digits}
use Rattle.cal_time.specs.Month.{month_out_of_range}
use Rattle.cal_time.specs.declared.error.ComponentRange.{ComponentRange}
use Rattle.cal_time.specs.DateErrors.{day_out_of_range}
use Rattle.cal_time.specs.Time.{time_of, hour_out_of_range, minute_out_of_range, second_out_of_range}
use Rattle.cal_time.specs.UtcOffset.{offset_hour_out_of_range, offset_minute_out_of_range}
use Rattle.cal_datetime.specs.DateTime.{IsDateTime, date_at, time_at}
use Rattle.cal_datetime.specs.OffsetDateTime.{LocalAndOffset}
use Rattle.cal_text.specs.declared.rfc3339.numbers.Numbers.{Numbers}
use Rattle.cal_text.specs.declared.rfc3339.numbers.TimeOffset.{TimeOffset}
use Rattle.cal_text.specs.declared.rfc3339.numbers.TimeOffset.TheVariants.{Utc, Signed}
use Rattle.cal_text.specs.Parsing.{IsMonth}

-- ---- parts
-- T, t or a space separates the date from the time.
abbrev pub IsSeparator : ℕ → Type 0
IsSeparator byte = (byte ≡ 84) ⊎ (byte ≡ 116) ⊎ (byte ≡ 32)

-- The hour, the minute and the second have two digits each.
abbrev pub clock_digits : ℕ → ℕ → ℕ → List ℕ
clock_digits h m s = digits_at_least 2 h ++ codes ":" ++ digits_at_least 2 m ++ codes ":" ++ digits_at_least 2 s

-- The nanoseconds of the digits after a point: the number of the first nine digits, times 10 for
-- each missing digit.
abbrev pub nanoseconds_of : List ℕ → ℕ
nanoseconds_of digits = digits_value 10 (take 9 digits) * 10 ^ (9 - length digits)

-- A point and one digit or more.
pub record IsPointAndDigits (fraction digits : List ℕ) (nanosecond : ℕ) : Type 0 where
  pub some : 0 < length digits
  pub all : AllDigits 10 digits
  pub bytes_are : fraction ≡ 46 ∷ digits
  pub value : nanosecond ≡ nanoseconds_of digits

-- A fraction of a second is empty, or a point and digits.
abbrev pub IsFraction : List ℕ → ℕ → Type 0
IsFraction fraction n = ((fraction ≡ []) × (n ≡ 0)) ⊎ ((digits : List ℕ) × IsPointAndDigits fraction digits n)

-- The bytes are a fraction of at most more + 1 digits, and then the others.
pub record HasFractionBefore (others : List ℕ) (more : ℕ) (bytes : List ℕ) (nanosecond : ℕ) : Type 0 where
  pub fraction : List ℕ
  pub is_fraction : IsFraction fraction nanosecond
  pub short : length fraction ≤ more + 2
  pub bytes_are : bytes ≡ fraction ++ others

-- A sign is a plus sign, or a minus sign west of UTC.
abbrev pub sign_byte : Bool → ℕ
sign_byte is_west = if is_west then 45 else 43

-- An offset is Z or z, or a sign and two digits each of the hours and the minutes.
abbrev pub IsTimeOffset : List ℕ → TimeOffset → Type 0
IsTimeOffset offset Utc = (offset ≡ codes "Z") ⊎ (offset ≡ codes "z")
IsTimeOffset offset (Signed is_west h m) =
    (h < 100) × (m < 100) × (offset ≡ sign_byte is_west ∷ (digits_at_least 2 h ++ 58 ∷ digits_at_least 2 m))

-- ---- the whole
-- Each number has at most as many digits as the form.
pub record NumbersFit (m : Numbers) : Type 0 where
  pub year : m.year < 10000
  pub month : m.month < 100
  pub day : m.day < 100
  pub hour : m.hour < 100
  pub minute : m.minute < 100
  pub second : m.second < 100
  pub nanosecond : m.nanosecond < 1000000000

-- The bytes have the form of a moment with the numbers m.
pub record HasMomentForm (bytes : List ℕ) (m : Numbers) : Type 0 where
  pub numbers : NumbersFit m
  pub separator : ℕ
  pub fraction : List ℕ
  pub offset : List ℕ
  pub is_separator : IsSeparator separator
  pub is_fraction : IsFraction fraction m.nanosecond
  pub is_offset : IsTimeOffset offset m.offset
  pub bytes_are : bytes ≡ date_digits m.year m.month m.day ++ separator ∷ (clock_digits m.hour m.minute m.second ++ (fraction ++ offset))

-- ---- the moment that has the numbers
-- The offset o in seconds has this sign, at most 23 hours and at most 59 minutes.
abbrev pub IsOffsetOf : TimeOffset → ℤ → Type 0
IsOffsetOf Utc o = o ≡ pos 0
IsOffsetOf (Signed is_west h m) o =
    (h ≤ 23) × (m ≤ 59) × (o ≡ if is_west then neg_ℤ (pos (3600 * h + 60 * m)) else pos (3600 * h + 60 * m))

-- The moment `at` has the numbers m.
pub record IsMomentOf (m : Numbers) (at : LocalAndOffset) : Type 0 where
  pub in_range : IsDateTime at.local
  pub date : HasCalendarDate (pos m.year) m.month m.day (date_at at.local)
  pub hour : m.hour ≤ 23
  pub minute : m.minute ≤ 59
  pub second : m.second ≤ 59
  pub time : time_at at.local ≡ time_of m.hour m.minute m.second m.nanosecond
  pub offset : IsOffsetOf m.offset at.offset

-- The bytes are a text of this moment.
abbrev pub IsMomentText : List ℕ → LocalAndOffset → Type 0
IsMomentText bytes at = (m : Numbers) × HasMomentForm bytes m × IsMomentOf m at

-- ---- the first component out of range: of the date, the time of day and the offset, in this order
-- The date is in range.
abbrev pub HasDay : Numbers → Type 0
HasDay m = IsMonth m.month × IsDayOfMonth (pos m.year) m.month m.day

-- The date and the time of day are in range.
abbrev pub HasClock : Numbers → Type 0
HasClock m = HasDay m × (m.hour ≤ 23) × (m.minute ≤ 59) × (m.second ≤ 59)

-- The hours of the offset are out of range.
abbrev pub ExceedsHours : TimeOffset → Type 0
ExceedsHours Utc = ⊥
ExceedsHours (Signed is_west h m) = 23 < h

-- The minutes of the offset are out of range, and its hours are not.
abbrev pub ExceedsMinutes : TimeOffset → Type 0
ExceedsMinutes Utc = ⊥
ExceedsMinutes (Signed is_west h m) = (h ≤ 23) × (59 < m)

-- The error of the first component out of range.
abbrev pub IsMomentError : Numbers → ComponentRange → Type 0
IsMomentError m why =
    ((why ≡ month_out_of_range) × ¬ IsMonth m.month)
    ⊎ ((why ≡ day_out_of_range) × (IsMonth m.month × ¬ IsDayOfMonth (pos m.year) m.month m.day))
    ⊎ ((why ≡ hour_out_of_range) × (HasDay m × (23 < m.hour)))
    ⊎ ((why ≡ minute_out_of_range) × (HasDay m × (m.hour ≤ 23) × (59 < m.minute)))
    ⊎ ((why ≡ second_out_of_range) × (HasDay m × (m.hour ≤ 23) × (m.minute ≤ 59) × (59 < m.second)))
    ⊎ ((why ≡ offset_hour_out_of_range) × (HasClock m × ExceedsHours m.offset))
    ⊎ ((why ≡ offset_minute_out_of_range) × (HasClock m × ExceedsMinutes m.offset))
