-- The ways to read the text of a line.
use Rattle.std.specs.Prelude.{◌≡◌, ◌⊎◌, ◌<◌, ◌≤◌, ◌^◌, ℕ, ℤ, pos, ◌+ℤ◌, ◌*ℤ◌, List, ◌∷◌, ◌++◌, codes, length, unsigned_abs}
use Rattle.std.specs.Fmt.{signed_decimal}
use Rattle.cal_time.specs.Date.{HasCalendarDate, IsDate, IsDayOfMonth}
use Rattle.cal_time.specs.DateErrors.{day_out_of_range}
use Rattle.cal_time.specs.DateText.{digits_at_least}
use Rattle.cal_time.specs.Month.{month_out_of_range}
use Rattle.cal_time.specs.SignedDuration.{microsecond, millisecond}
use Rattle.cal_time.specs.declared.error.ComponentRange.{ComponentRange}
use Rattle.cal_datetime.specs.DateTime.{IsDateTime}
use Rattle.cal_datetime.specs.OffsetDateTime.{LocalAndOffset, unix_epoch, timestamp_out_of_range}
use Rattle.cal_iso.specs.DateForm.{HasIsoDate, IsIsoDateText}
use Rattle.cal_iso.specs.MomentForm.{HasIsoMoment, HasIsoPlain, IsIsoMomentText, IsIsoPlainText}
use Rattle.cal_text.specs.AnyForm.{IsTextOf, IsDateOrMomentError, HasAnyForm}
use Rattle.cal_text.specs.OffsetDateTimeForm.{IsOffsetDateTimeError}
use Rattle.cal_text.specs.Parsing.{HasError, IsMonth, IsDateError as IsAnyDateError}
use Rattle.cal_text.specs.PlainForm.{IsPlainError}
use Rattle.cal_text.specs.Position.{HasSome}
use Rattle.cal_text.specs.Rfc3339Form.{HasMomentForm, IsMomentError, IsMomentText}
use Rattle.cal_text.specs.Shape.{Shape, Branch, Byte, Digits, End, Number}
use Rattle.cal_text.specs.declared.any.DateForm.TheVariants.{Calendar}
use Rattle.cal_text.specs.declared.any.DateOrMoment.{DateOrMoment}
use Rattle.cal_text.specs.declared.any.DateOrMoment.TheVariants.{Date, Moment}
use Rattle.cal_text.specs.declared.any.MomentForm.TheVariants as form
use Rattle.caldate_answers.specs.declared.reading.DateOrder.{DateOrder}
use Rattle.caldate_answers.specs.declared.reading.DateOrder.TheVariants.{Basic, DayFirst, MonthFirst}
use Rattle.caldate_answers.specs.declared.reading.Reading.{Reading}
use Rattle.caldate_answers.specs.declared.reading.Reading.TheVariants as reading
use Rattle.caldate_answers.specs.declared.request.UnixUnit.{UnixUnit}
use Rattle.caldate_answers.specs.declared.request.UnixUnit.TheVariants.{Milliseconds, Microseconds, Nanoseconds}

-- ---- dates in eight digits, or with the year last
-- A year, a month and a day of the month. They need not be in range.
abbrev pub YearMonthDay : Type 0
YearMonthDay = ℕ × ℕ × ℕ

-- Eight digits: the year, the month and the day.
pub record IsBasic (bytes : List ℕ) (v : YearMonthDay) : Type 0 where
  pub fit : (v.0 < 10_000) × (v.1 < 100) × (v.2 < 100)
  pub bytes_are : bytes ≡ digits_at_least 4 v.0 ++ (digits_at_least 2 v.1 ++ digits_at_least 2 v.2)

-- A hyphen, a point or a slash.
abbrev pub IsSeparator : ℕ → Type 0
IsSeparator byte = (byte ≡ 45) ⊎ (byte ≡ 46) ⊎ (byte ≡ 47)

-- Two numbers of two digits and a year of four, with the same separator between them.
pub record IsYearLast (bytes : List ℕ) (first second year : ℕ) : Type 0 where
  pub fit : (first < 100) × (second < 100) × (year < 10_000)
  pub separator : ℕ
  pub is_separator : IsSeparator separator
  pub bytes_are : bytes ≡ digits_at_least 2 first ++ separator ∷ (digits_at_least 2 second ++ separator ∷ digits_at_least 4 year)

-- The bytes are a date with these numbers.
abbrev pub HasDate : DateOrder → List ℕ → YearMonthDay → Type 0
HasDate Basic bytes v = IsBasic bytes v
HasDate DayFirst bytes v = IsYearLast bytes v.2 v.1 v.0
HasDate MonthFirst bytes v = IsYearLast bytes v.1 v.2 v.0

-- The bytes are a string of this date.
abbrev pub IsDateOf : DateOrder → List ℕ → DateOrMoment → Type 0
IsDateOf order bytes found =
    (v : YearMonthDay) × HasDate order bytes v × ((n : ℕ) × IsDate n × HasCalendarDate (pos v.0) v.1 v.2 n × (found ≡ Date Calendar n))

-- The month is out of range, else the day.
abbrev pub IsDateError : YearMonthDay → ComponentRange → Type 0
IsDateError v why =
    ((why ≡ month_out_of_range) × ¬ IsMonth v.1) ⊎ ((why ≡ day_out_of_range) × (IsMonth v.1 × ¬ IsDayOfMonth (pos v.0) v.1 v.2))

-- ---- moments without an offset: with a Z they have the form of a moment, and at most nine digits
-- of a fraction
abbrev pub WithoutOffset : {V : Type 0} → (List ℕ → V → Type 0) → List ℕ → V → Type 0
WithoutOffset {V} Has bytes v = (length bytes ≤ 29) × Has (bytes ++ codes "Z") v

-- The local time of the moment is at the given offset.
abbrev pub IsLocalOf : ℤ → List ℕ → DateOrMoment → Type 0
IsLocalOf offset bytes found =
    (m : LocalAndOffset) × WithoutOffset IsMomentText bytes m × (found ≡ Moment form.Rfc3339 (record { local = m.local; offset = offset }))

-- ---- whole numbers, of at most 27 digits
-- The nanoseconds of a unit.
abbrev pub nanoseconds_in : UnixUnit → ℕ
nanoseconds_in Milliseconds = millisecond
nanoseconds_in Microseconds = microsecond
nanoseconds_in Nanoseconds = 1

-- The bytes are the number z, of at most 27 digits, with a minus sign if it is negative.
pub record IsNumber (bytes : List ℕ) (z : ℤ) : Type 0 where
  pub few : unsigned_abs z < 10 ^ 27
  pub bytes_are : bytes ≡ signed_decimal z

-- The date-time z units after 1970-01-01 at UTC.
abbrev pub local_of : UnixUnit → ℤ → ℤ
local_of unit z = unix_epoch +ℤ (z *ℤ pos (nanoseconds_in unit))

-- The moment at UTC is z units after 1970-01-01, which is in range.
pub record IsUnixMoment (unit : UnixUnit) (z : ℤ) (m : LocalAndOffset) : Type 0 where
  pub in_range : IsDateTime (local_of unit z)
  pub at_utc : m ≡ record { local = local_of unit z; offset = pos 0 }

-- The bytes are the number of this moment.
abbrev pub IsNumberOf : UnixUnit → List ℕ → DateOrMoment → Type 0
IsNumberOf unit bytes found =
    (z : ℤ) × IsNumber bytes z × ((m : LocalAndOffset) × IsUnixMoment unit z m × (found ≡ Moment form.Unix m))

-- ---- the whole
-- The bytes are a string of this date or moment.
abbrev pub IsTextIn : Reading → List ℕ → DateOrMoment → Type 0
IsTextIn reading.Any bytes found = IsTextOf bytes found
IsTextIn (reading.Date order) bytes found = IsDateOf order bytes found
IsTextIn (reading.Unix unit) bytes found = IsNumberOf unit bytes found
IsTextIn (reading.Local offset) bytes found = IsLocalOf offset bytes found
IsTextIn reading.IsoDate bytes found = (n : ℕ) × IsIsoDateText bytes n × (found ≡ Date Calendar n)
IsTextIn reading.IsoMoment bytes found = (m : LocalAndOffset) × IsIsoMomentText bytes m × (found ≡ Moment form.Rfc3339 m)
IsTextIn (reading.IsoLocal offset) bytes found =
    (z : ℤ) × IsIsoPlainText bytes z × (found ≡ Moment form.Rfc3339 (record { local = z; offset = offset }))

-- The bytes have the form, whatever their numbers are.
abbrev pub HasFormIn : Reading → List ℕ → Type 0
HasFormIn reading.Any bytes = HasAnyForm bytes
HasFormIn (reading.Date order) bytes = HasSome (HasDate order) bytes
HasFormIn (reading.Unix unit) bytes = HasSome IsNumber bytes
HasFormIn (reading.Local offset) bytes = HasSome (WithoutOffset HasMomentForm) bytes
HasFormIn reading.IsoDate bytes = HasSome HasIsoDate bytes
HasFormIn reading.IsoMoment bytes = HasSome HasIsoMoment bytes
HasFormIn (reading.IsoLocal offset) bytes = HasSome HasIsoPlain bytes

-- This component of the bytes is out of range.
abbrev pub IsErrorIn : Reading → List ℕ → ComponentRange → Type 0
IsErrorIn reading.Any bytes why = IsDateOrMomentError bytes why
IsErrorIn (reading.Date order) bytes why = HasError (HasDate order) IsDateError bytes why
IsErrorIn (reading.Unix unit) bytes why =
    (why ≡ timestamp_out_of_range) × ((z : ℤ) × IsNumber bytes z × ¬ IsDateTime (local_of unit z))
IsErrorIn (reading.Local offset) bytes why = HasError (WithoutOffset HasMomentForm) IsMomentError bytes why
IsErrorIn reading.IsoDate bytes why = HasError HasIsoDate IsAnyDateError bytes why
IsErrorIn reading.IsoMoment bytes why = HasError HasIsoMoment IsOffsetDateTimeError bytes why
IsErrorIn (reading.IsoLocal offset) bytes why = HasError HasIsoPlain IsPlainError bytes why

-- ---- the shapes of dates and of whole numbers
-- The bytes after a separator.
abbrev pub past_separator : ℕ → Shape
past_separator separator = Digits 2 (Byte separator (Digits 4 End))

-- The separator and the bytes after it.
abbrev pub from_separator : Shape
from_separator = Branch 45 0 (past_separator 45) (Branch 46 0 (past_separator 46) (Byte 47 (past_separator 47)))

-- Two numbers of two digits and a year of four.
abbrev pub year_last : Shape
year_last = Digits 2 from_separator

-- The shape of a date.
abbrev pub date_shape : DateOrder → Shape
date_shape Basic = Digits 8 End
date_shape order = year_last

-- Zero, or a number of at most 27 digits without leading zeros, with a minus sign if it is
-- negative.
abbrev pub number_shape : Shape
number_shape = Branch 45 0 (Number 26 End) (Branch 48 0 End (Number 26 End))
