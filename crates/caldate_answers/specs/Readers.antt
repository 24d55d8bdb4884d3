-- The forms that a line is read in. The first that fits wins.
use Rattle.std.specs.Prelude.{◌≡◌, ◌≤◌, ◌⊎◌, ◌++◌, ℕ, ℤ, pos, ◌+ℤ◌, ◌-ℤ◌, ◌≤ℤ◌, codes, length, List, [], ◌∷◌, Bool, true, false, IfOk, IsSomeAnd, IsTrue, Result, if◌then◌else◌}
use Rattle.cal_time.specs.Date.{IsDate, year_at}
use Rattle.cal_time.specs.DateText.{year_text}
use Rattle.cal_time.specs.UtcOffset.{IsOffset}
use Rattle.cal_time.specs.declared.error.ComponentRange.{ComponentRange}
use Rattle.cal_datetime.specs.DateTime.{IsDateTime, time_at}
use Rattle.cal_datetime.specs.OffsetDateTime.{LocalAndOffset}
use Rattle.cal_format.specs.declared.item.Item.{Item}
use Rattle.cal_format.specs.Moment.{moment_of_date, moment_of_date_time, moment_of_offset_date_time}
use Rattle.cal_format.specs.Reading.{holds_offset, holds_time}
use Rattle.cal_format.specs.Scanning.{AreHeld}
use Rattle.cal_format.specs.Text.{text_of}
use Rattle.cal_text.specs.AnyForm.{IsDateOrMomentError, IsTextOf}
use Rattle.cal_text.specs.Position.{IsPosition}
use Rattle.cal_text.specs.declared.any.DateForm.TheVariants.{Calendar}
use Rattle.cal_text.specs.declared.any.DateOrMoment.{DateOrMoment}
use Rattle.cal_text.specs.declared.any.DateOrMoment.TheVariants as dated
use Rattle.cal_text.specs.declared.any.MomentForm.TheVariants.{Rfc3339}
use Rattle.caldate_answers.specs.FormatErrors.{IsFormatError, IsReadBy, IsReasonBy}
use Rattle.caldate_answers.specs.Found.{day_of}
use Rattle.caldate_answers.specs.Languages.{IsTextInLanguage}
use Rattle.caldate_answers.specs.Nearness.{IsNearestTo}
use Rattle.caldate_answers.specs.Readings.{HasFormIn, IsErrorIn, IsTextIn}
use Rattle.caldate_answers.specs.Spellings.{full_by}
use Rattle.caldate_answers.specs.Variants.{IsVariantText}
use Rattle.caldate_lines.specs.declared.no_answer.NoAnswer.{NoAnswer}
use Rattle.caldate_lines.specs.declared.no_answer.NoAnswer.TheVariants as why
use Rattle.caldate_answers.specs.declared.reading.Reading.{Reading}
use Rattle.caldate_answers.specs.declared.reading.Reading.TheVariants as reading
use Rattle.caldate_answers.specs.declared.reading.yearless.AssumedYear.{AssumedYear}
use Rattle.caldate_answers.specs.declared.reading.yearless.AssumedYear.TheVariants.{Is, Near}
use Rattle.caldate_answers.specs.declared.reading.reader.Assumptions.{Assumptions}
use Rattle.caldate_answers.specs.declared.reading.reader.Reader.{Reader}
use Rattle.caldate_answers.specs.declared.reading.reader.Reader.TheVariants.{Named, Local, Spelled, Format, Yearless}
use Rattle.caldate_answers.specs.declared.reading.spelling.Spelling.{Spelling}
use Rattle.caldate_answers.specs.declared.reading.value_format.ValueFormat.{ValueFormat}
use Rattle.caldate_answers.specs.declared.reading.value_format.ValueFormat.TheVariants.{Dates, Moments, DateTimes, Lenient, InLanguage}

-- ---- formats: the string is what the items print of a value that they hold
pub record IsDateText (items : List Item) (text : List ℕ) (n : ℕ) : Type 0 where
  pub in_range : IsDate n
  pub held : AreHeld (moment_of_date n) items
  pub text_is : text ≡ text_of items (moment_of_date n)

pub record IsMomentText (items : List Item) (text : List ℕ) (m : LocalAndOffset) : Type 0 where
  pub local : IsDateTime m.local
  pub offset : IsOffset m.offset
  pub held : AreHeld (moment_of_offset_date_time m) items
  pub time : IsTrue (holds_time items (time_at m.local))
  pub printed_offset : IsTrue (holds_offset items m.offset)
  pub text_is : text ≡ text_of items (moment_of_offset_date_time m)

pub record IsDateTimeText (items : List Item) (text : List ℕ) (z : ℤ) : Type 0 where
  pub in_range : IsDateTime z
  pub held : AreHeld (moment_of_date_time z) items
  pub time : IsTrue (holds_time items (time_at z))
  pub text_is : text ≡ text_of items (moment_of_date_time z)

-- The string is one of this date or moment. A string without an offset is at `offset`.
abbrev pub IsFormatText : ℤ → ValueFormat → List ℕ → DateOrMoment → Type 0
IsFormatText offset (Dates items) text found = (n : ℕ) × IsDateText items text n × (found ≡ dated.Date Calendar n)
IsFormatText offset (Moments items) text found = (m : LocalAndOffset) × IsMomentText items text m × (found ≡ dated.Moment Rfc3339 m)
IsFormatText offset (DateTimes items) text found =
    (z : ℤ) × IsDateTimeText items text z × (found ≡ dated.Moment Rfc3339 (record { local = z; offset = offset }))
IsFormatText offset (Lenient format) text found = IsVariantText offset format text found
IsFormatText offset (InLanguage format) text found = IsTextInLanguage offset format.0 format.1 text found

-- The result of reading a string in the format. A date or moment has no error.
abbrev pub IsReadIn : ℤ → ValueFormat → List ℕ → Result DateOrMoment NoAnswer → Type 0
IsReadIn offset format text r =
    IsReadBy (IsFormatText offset format text) (IsFormatError format text) r × IfOk r (λ _. (any : ComponentRange) → ¬ IsFormatError format text any)

-- ---- formats without a year: the string followed by a slash and the year is one in the format
-- followed by `/%Y`
abbrev pub with_year : List ℕ → List ℕ → List ℕ
with_year year text = text ++ codes "/" ++ year

-- The string is this date or moment, whose year is from the first to the last one, and from 0 to
-- 9999.
pub record IsTextInYears (offset : ℤ) (format : ValueFormat) (text : List ℕ) (first last : ℤ) (found : DateOrMoment) : Type 0 where
  pub from : first ≤ℤ year_at (day_of found)
  pub to : year_at (day_of found) ≤ℤ last
  pub four_digits : (pos 0 ≤ℤ year_at (day_of found)) × (year_at (day_of found) ≤ℤ pos 9_999)
  pub text_is : IsFormatText offset format (with_year (year_text (year_at (day_of found))) text) found

-- The same within 50 years of a day.
abbrev pub IsTextNear : ℤ → ValueFormat → List ℕ → ℕ → DateOrMoment → Type 0
IsTextNear offset format text day found =
    IsTextInYears offset format text (year_at day -ℤ pos 50) (year_at day +ℤ pos 50) found

-- The string is this date or moment in the assumed year.
abbrev pub IsTextOfYear : AssumedYear → ℤ → ValueFormat → List ℕ → DateOrMoment → Type 0
IsTextOfYear (Is year) offset format text found = IsTextInYears offset format text year year found
IsTextOfYear (Near day) offset format text found = IsNearestTo day (IsTextNear offset format text day) found

pub record IsYearlessText (assumptions : Assumptions) (format : ValueFormat) (text : List ℕ) (found : DateOrMoment) : Type 0 where
  pub short : length text ≤ 60
  pub text_is : IsTextOfYear assumptions.year assumptions.offset format text found

-- The string has the form, and in this year, from 0 to 9999, a component is out of range.
pub record IsErrorInYear (format : ValueFormat) (text : List ℕ) (year : ℤ) (any : ComponentRange) : Type 0 where
  pub four_digits : (pos 0 ≤ℤ year) × (year ≤ℤ pos 9_999)
  pub error : IsFormatError format (with_year (year_text year) text) any

abbrev pub IsReadInYear : ℤ → ValueFormat → List ℕ → ℤ → Result DateOrMoment NoAnswer → Type 0
IsReadInYear offset format text year r =
    IsReadBy (IsTextInYears offset format text year year) (IsErrorInYear format text year) r × IfOk r (λ _. (any : ComponentRange) → ¬ IsErrorInYear format text year any)

-- The assumed year, or the year of the day.
abbrev pub year_of : AssumedYear → ℤ
year_of (Is year) = year
year_of (Near day) = year_at day

pub record IsYearlessError (assumptions : Assumptions) (format : ValueFormat) (text : List ℕ) (any : ComponentRange) : Type 0 where
  pub short : length text ≤ 60
  pub error : IsErrorInYear format text (year_of assumptions.year) any

-- ---- forms
-- The bytes are a string of this date or moment in the form. The parts that it leaves out are
-- assumed.
abbrev pub IsTextBy : Assumptions → Reader → List ℕ → DateOrMoment → Type 0
IsTextBy assumptions (Named reading) text found = IsTextIn reading text found
IsTextBy assumptions Local text found = IsTextIn (reading.Local assumptions.offset) text found
IsTextBy assumptions (Spelled spelling) text found = IsSomeAnd (full_by spelling text) (λ full. IsTextOf full found)
IsTextBy assumptions (Format format) text found = IsFormatText assumptions.offset format text found
IsTextBy assumptions (Yearless format) text found = IsYearlessText assumptions format text found

-- The first form that the string has gives its date or moment.
abbrev pub IsFoundBy : Assumptions → List Reader → List ℕ → DateOrMoment → Type 0
IsFoundBy assumptions [] text found = ⊥
IsFoundBy assumptions (reader ∷ readers) text found =
    IsTextBy assumptions reader text found ⊎ (((other : DateOrMoment) → ¬ IsTextBy assumptions reader text other) × IsFoundBy assumptions readers text found)

-- ---- a string in none of the forms
-- The string has the form, with a component out of range, or departs from the form at a position.
abbrev pub IsUnreadIn : Reading → List ℕ → NoAnswer → Type 0
IsUnreadIn reading text (why.Rejected component) = IsErrorIn reading text component
IsUnreadIn reading text (why.Unreadable at) = (¬ HasFormIn reading text) × IsPosition (HasFormIn reading) text at
IsUnreadIn reading text other = ⊥

-- The spelled moment has this component out of range.
abbrev pub IsSpellingError : Spelling → List ℕ → ComponentRange → Type 0
IsSpellingError spelling text component = IsSomeAnd (full_by spelling text) (λ full. IsDateOrMomentError full component)

-- A spelling says which component is out of range, or that the string doesn't have it.
abbrev pub IsUnspelled : Spelling → List ℕ → NoAnswer → Type 0
IsUnspelled spelling text any = IsReasonBy (IsSpellingError spelling text) any

-- Why the string isn't read in the form.
abbrev pub IsUnreadBy : Assumptions → Reader → List ℕ → NoAnswer → Type 0
IsUnreadBy assumptions (Named reading) text any = IsUnreadIn reading text any
IsUnreadBy assumptions Local text any = IsUnreadIn (reading.Local assumptions.offset) text any
IsUnreadBy assumptions (Spelled spelling) text any = IsUnspelled spelling text any
IsUnreadBy assumptions (Format format) text any = IsReasonBy (IsFormatError format text) any
IsUnreadBy assumptions (Yearless format) text any = IsReasonBy (IsYearlessError assumptions format text) any

-- Bytes without an answer for this reason have one of the forms.
abbrev pub has_form : NoAnswer → Bool
has_form why.NoForm = false
has_form (why.Unreadable at) = false
has_form other = true

-- A form that the string has says why it has no answer, or else the first form.
abbrev pub first_reason : NoAnswer → NoAnswer → NoAnswer
first_reason own later = if has_form own then own else if has_form later then later else own

abbrev pub IsReason : Assumptions → List Reader → List ℕ → NoAnswer → Type 0
IsReason assumptions [] text any = any ≡ why.NoForm
IsReason assumptions (reader ∷ readers) text any =
    (own : NoAnswer) × (later : NoAnswer) × IsUnreadBy assumptions reader text own × IsReason assumptions readers text later × (any ≡ first_reason own later)

-- The string is in none of the forms, for this reason.
pub record IsUnread (assumptions : Assumptions) (readers : List Reader) (text : List ℕ) (any : NoAnswer) : Type 0 where
  pub none : (found : DateOrMoment) → ¬ IsFoundBy assumptions readers text found
  pub why_is : IsReason assumptions readers text any
