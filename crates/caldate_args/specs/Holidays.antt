-- The holidays in a file: a date or a rule in each line, in any order.
use denote.Ref.{Bor}
use Rattle.std.specs.Prelude.{◌≡◌, ◌↔◌, ⊤, ℕ, ◌+◌, ◌<◌, ◌≤◌, List, [], ◌∷◌, ◌++◌, length, All, Contains, Option, None, Some, Result, Ok, Err}
use Rattle.std.specs.Io.KnownBytes.{Consumes, IsAtEnd}
use Rattle.cal_time.specs.Counted.{IsRising}
use Rattle.cal_time.specs.Date.{IsDate, julian_day_at}
use Rattle.cal_time.specs.declared.error.ComponentRange.{ComponentRange}
use Rattle.cal_text.specs.DateForms.{HasForm, IsDateText}
use Rattle.cal_text.specs.Parsing.{HasError, IsDateError, component_of}
use Rattle.cal_text.specs.Position.{HasSome, IsErrorAtStop}
use Rattle.cal_text.specs.declared.error.ParseError.{ParseError}
use Rattle.cal_holidays.specs.Holidays.{AreMore}
use Rattle.cal_holidays.specs.HolidaySearch.{IsHolidayBy}
use Rattle.cal_holidays.specs.declared.holiday_rule.HolidayRule.{HolidayRule}
use Rattle.cal_holiday_text.specs.Rules.{line_rule}
use Rattle.caldate_lines.specs.Lines.{lines_of, text_of}
use Rattle.caldate_args.specs.declared.holidays.TheConstants.{MAX_HOLIDAYS}
use Rattle.caldate_args.specs.declared.holidays.calendar_holidays.TheConstants.{FIRST_DAY, LAST_DAY}
use Rattle.caldate_args.specs.declared.holidays.holiday_line.HolidayLine.{HolidayLine}
use Rattle.caldate_args.specs.declared.holidays.holiday_line.HolidayLine.TheVariants.{Empty, Date, Rule}
use Rattle.caldate_args.specs.declared.holidays.read_holidays_error.HolidayLineError.{HolidayLineError}
use Rattle.caldate_args.specs.declared.holidays.read_holidays_error.HolidayLineError.TheVariants.{NoDate, InvalidRule, TooMany}
use Rattle.caldate_args.specs.declared.holidays.read_holidays_error.ReadHolidaysError.{ReadHolidaysError}
use Rattle.caldate_args.specs.declared.holidays.read_holidays_error.ReadHolidaysError.TheVariants.{File, Line}

-- ---- a line
-- The line is the date of day n.
pub record IsDateLine (line : List ℕ) (n : ℕ) : Type 0 where
  pub in_range : IsDate n
  pub text_is : IsDateText (text_of line) n

-- The line isn't a date, and is a line of rules that has this result.
pub record IsRuleLine (line : List ℕ) (result : Result (Option HolidayRule) ℕ) : Type 0 where
  pub no_date : (n : ℕ) → ¬ IsDateLine line n
  pub result_is : line_rule 0 line ≡ result

-- The meaning of a line: a date, or else a rule or no words.
abbrev pub IsLine : List ℕ → HolidayLine → Type 0
IsLine line (Date n) = IsDateLine line n
IsLine line (Rule rule) = IsRuleLine line (Ok (Some rule))
IsLine line Empty = IsRuleLine line (Ok None)

-- Day n is the date of a line, or a holiday of its rule in the years of a calendar.
abbrev pub IsDayOf : HolidayLine → ℕ → Type 0
IsDayOf (Date date) n = n ≡ date
IsDayOf (Rule rule) n = IsHolidayBy rule FIRST_DAY LAST_DAY n
IsDayOf Empty n = ⊥

-- Day n is a holiday of the line.
pub record IsHoliday (line : List ℕ) (n : ℕ) : Type 0 where
  pub meaning : HolidayLine
  pub is : IsLine line meaning
  pub day : IsDayOf meaning n

-- Day n is a holiday of one of the lines.
pub record IsHolidayOf (lines : List (List ℕ)) (n : ℕ) : Type 0 where
  pub line : List ℕ
  pub among : Contains lines line
  pub is : IsHoliday line n

-- The line has a meaning.
abbrev pub IsValidLine : List ℕ → Type 0
IsValidLine line = (meaning : HolidayLine) × IsLine line meaning

-- The text is not a date, for this reason: the position at which it leaves the forms of a date, or
-- the first component out of range.
pub record IsNoDate (text : List ℕ) (error : ParseError) : Type 0 where
  pub syntax : (component_of error ≡ None) ↔ ¬ HasSome HasForm text
  pub position : IsErrorAtStop (HasSome HasForm) text error
  pub component : (why : ComponentRange) → (component_of error ≡ Some why) ↔ HasError HasForm IsDateError text why

-- The line has no meaning, for this reason: its first word is neither a date nor the day of a rule,
-- or a later word of a rule is invalid.
abbrev pub IsInvalidLine : List ℕ → HolidayLineError → Type 0
IsInvalidLine line (NoDate error) = IsRuleLine line (Err 0) × IsNoDate (text_of line) error
IsInvalidLine line (InvalidRule position) = IsRuleLine line (Err position) × (0 < position)
IsInvalidLine line TooMany = ⊥

-- ---- the whole
-- The days are the holidays of the lines, in ascending order and each once.
pub record AreHolidays (lines : List (List ℕ)) (days : List ℕ) : Type 0 where
  pub valid : All IsValidLine lines
  pub rising : IsRising julian_day_at days
  pub each : (n : ℕ) → Contains days n ↔ IsHolidayOf lines n

-- The lines have holidays, and not too many.
abbrev pub AreReadable : List (List ℕ) → Type 0
AreReadable lines = (days : List ℕ) × AreHolidays lines days × (length days ≤ MAX_HOLIDAYS)

-- A line after other lines is invalid, or it is valid, and there are too many holidays with it.
abbrev pub IsLineError : List (List ℕ) → List ℕ → HolidayLineError → Type 0
IsLineError before line (NoDate error) = IsInvalidLine line (NoDate error)
IsLineError before line (InvalidRule position) = IsInvalidLine line (InvalidRule position)
IsLineError before line TooMany = IsValidLine line × AreMore (IsHolidayOf (before ++ line ∷ [])) MAX_HOLIDAYS

-- The first line with an error has this number, counted from 1.
pub record IsErrorAt (lines : List (List ℕ)) (number : ℕ) (error : HolidayLineError) : Type 0 where
  pub before : List (List ℕ)
  pub line : List ℕ
  pub after : List (List ℕ)
  pub lines_are : lines ≡ before ++ line ∷ after
  pub readable : AreReadable before
  pub number_is : number ≡ length before + 1
  pub is : IsLineError before line error

abbrev pub IsFirstError : List (List ℕ) → ReadHolidaysError → Type 0
IsFirstError lines (Line number error) = IsErrorAt lines number error
IsFirstError lines (File error) = ⊥

-- The bytes that a reader gave up to its end have these holidays, or a line with an error. After a
-- failed read nothing is known of them.
abbrev pub AreReadHolidays : Option (List ℕ) → Option (List ℕ) → Result (Bor (List ℕ)) ReadHolidaysError → Type 0
AreReadHolidays old new (Ok days) = (bytes : List ℕ) × IsAtEnd new × Consumes old new bytes × AreHolidays (lines_of bytes) days.now
AreReadHolidays old new (Err (Line number error)) = (bytes : List ℕ) × IsAtEnd new × Consumes old new bytes × IsErrorAt (lines_of bytes) number error
AreReadHolidays old new (Err (File error)) = ⊤
