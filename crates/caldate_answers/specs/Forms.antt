-- The string of a moment in each form.
use Rattle.std.specs.Prelude.{◌≡◌, ℕ, ℤ, pos, ◌≤ℤ◌, ◌≤◌, List, ◌++◌, codes, length, take, [], ◌∷◌}
use Rattle.std.specs.Fmt.{signed_decimal}
use Rattle.std.specs.Int.{int_div_euclid}
use Rattle.cal_time.specs.Date.{year_at, month_at, day_of_month_at, weekday_at}
use Rattle.cal_time.specs.DateText.{digits_at_least, year_text}
use Rattle.cal_time.specs.Digits.{digit}
use Rattle.cal_time.specs.SignedDuration.{microsecond, millisecond}
use Rattle.cal_time.specs.Weekday.{name}
use Rattle.cal_time.specs.Weekday as weekday
use Rattle.cal_datetime.specs.DateTime.{date_at}
use Rattle.cal_format.specs.declared.item.Item.{Item}
use Rattle.cal_format.specs.Moment.{moment_of_offset_date_time}
use Rattle.cal_format.specs.Text.{text_of}
use Rattle.cal_datetime.specs.OffsetDateTime.{LocalAndOffset, instant, unix_nanoseconds}
use Rattle.cal_names.specs.declared.names.Names.{Names}
use Rattle.cal_named_format.specs.Named.{text_in}
use Rattle.cal_schedule.specs.Months.{quarter_at}
use Rattle.cal_text.specs.AnyForm.{date_text}
use Rattle.cal_text.specs.Rfc3339.{HasMomentText, moment_text}
use Rattle.cal_text.specs.UnixText.{unix_text}
use Rattle.cal_text.specs.declared.any.MomentForm.TheVariants as moment
use Rattle.caldate_lines.specs.Room.{longest_answer}
use Rattle.caldate_answers.specs.declared.request.Form.{Form}
use Rattle.caldate_answers.specs.declared.request.Form.TheVariants.{Date, Weekday, Moment, ShortWeekday, Month, Quarter, Basic, Unix}
use Rattle.caldate_answers.specs.declared.request.UnixUnit.{UnixUnit}
use Rattle.caldate_answers.specs.declared.request.UnixUnit.TheVariants.{Milliseconds, Microseconds, Nanoseconds}

-- The English name of the weekday of day n.
abbrev pub weekday_text : ℕ → List ℕ
weekday_text n = name (weekday.weekday_of_index (weekday_at n))

-- The month and the quarter of day n, such as 2024-02 and 2024-Q1.
abbrev pub month_text : ℕ → List ℕ
month_text n = year_text (year_at n) ++ codes "-" ++ digits_at_least 2 (month_at n)

abbrev pub quarter_text : ℕ → List ℕ
quarter_text n = year_text (year_at n) ++ codes "-Q" ++ digit (quarter_at n) ∷ []

-- A date has a string in the basic format of ISO 8601 if its year is from 0 to 9999.
pub record HasBasicText (n : ℕ) : Type 0 where
  pub from_year_0 : pos 0 ≤ℤ year_at n
  pub to_year_9999 : year_at n ≤ℤ pos 9999

-- The date in the basic format, such as 20240229.
abbrev pub basic_text : ℕ → List ℕ
basic_text n = year_text (year_at n) ++ digits_at_least 2 (month_at n) ++ digits_at_least 2 (day_of_month_at n)

-- A number of nanoseconds in whole units, rounded toward the past.
abbrev pub units_in : UnixUnit → ℤ → ℤ
units_in Milliseconds v = int_div_euclid v (pos millisecond)
units_in Microseconds v = int_div_euclid v (pos microsecond)
units_in Nanoseconds v = v

-- The string of a moment in a format.
abbrev pub format_text : List Item → LocalAndOffset → List ℕ
format_text items m = text_of items (moment_of_offset_date_time m)

-- The words are the string of a moment in a format with these names, and have at most 1000 bytes. A
-- longer string is no answer.
abbrev pub IsInLanguage : Names → List Item → LocalAndOffset → List ℕ → Type 0
IsInLanguage names items m words = (length words ≤ longest_answer) × (words ≡ text_in names items (moment_of_offset_date_time m))

-- The words are the string of a moment in the form.
abbrev pub IsInForm : Form → LocalAndOffset → List ℕ → Type 0
IsInForm (Date form) m words = words ≡ date_text form (date_at m.local)
IsInForm Weekday m words = words ≡ weekday_text (date_at m.local)
IsInForm (Moment moment.Rfc3339) m words = HasMomentText m × (words ≡ moment_text m)
IsInForm (Moment moment.Unix) m words = words ≡ unix_text (unix_nanoseconds (instant m))
IsInForm ShortWeekday m words = words ≡ take 3 (weekday_text (date_at m.local))
IsInForm Month m words = words ≡ month_text (date_at m.local)
IsInForm Quarter m words = words ≡ quarter_text (date_at m.local)
IsInForm Basic m words = HasBasicText (date_at m.local) × (words ≡ basic_text (date_at m.local))
IsInForm (Unix unit) m words = words ≡ signed_decimal (units_in unit (unix_nanoseconds (instant m)))
