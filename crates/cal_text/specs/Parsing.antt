-- The value of a text with a form: the day with its numbers, or the first component out of range.
use Rattle.std.specs.Prelude.{◌≡◌, ◌⊎◌, ℕ, ◌-◌, ◌≤◌, List, Option, Some, None, Result, IsErrAnd}
use Rattle.cal_time.specs.Date.{IsYear, IsDayOfMonth, IsOrdinal, HasCalendarDate, HasOrdinalDate, NoDate}
use Rattle.cal_time.specs.IsoWeekDate.{IsWeek, HasIsoWeekDate}
use Rattle.cal_time.specs.Month.{month_out_of_range}
use Rattle.cal_time.specs.declared.error.ComponentRange.{ComponentRange}
use Rattle.cal_time.specs.DateErrors.{year_out_of_range, day_out_of_range, ordinal_out_of_range, week_out_of_range, weekday_out_of_range}
use Rattle.cal_text.specs.declared.error.ParseError.{ParseError}
use Rattle.cal_text.specs.declared.error.ParseError.TheVariants.{UnexpectedByte, UnexpectedEnd, OutOfRange}
use Rattle.cal_text.specs.declared.date_numbers.DateNumbers.{DateNumbers}
use Rattle.cal_text.specs.declared.date_numbers.DateNumbers.TheVariants.{Calendar, Ordinal, Week}

-- ---- errors
-- The component of an error. An error of the form has none.
abbrev pub component_of : ParseError → Option ComponentRange
component_of (UnexpectedByte at) = None
component_of (UnexpectedEnd at) = None
component_of (OutOfRange e) = Some e

-- The text was rejected for this component.
abbrev pub FailsWithComponent : {V : Type 0} → ComponentRange → Result V ParseError → Type 0
FailsWithComponent why r = IsErrAnd r (λ e. component_of e ≡ Some why)

-- The text was rejected for its form.
abbrev pub FailsWithSyntax : {V : Type 0} → Result V ParseError → Type 0
FailsWithSyntax r = IsErrAnd r (λ e. component_of e ≡ None)

-- ---- forms whose numbers need not be in range
-- The bytes have a form with this error.
abbrev pub HasError : {F : Type 0} → (List ℕ → F → Type 0) → (F → ComponentRange → Type 0) → List ℕ → ComponentRange → Type 0
HasError {F} Has IsError bytes why = (form : F) × Has bytes form × IsError form why

-- ---- days
-- Day n has the numbers of the form. Weekday 1 of a form is Monday.
abbrev pub IsOnDay : DateNumbers → ℕ → Type 0
IsOnDay (Calendar y m d) n = HasCalendarDate y m d n
IsOnDay (Ordinal y o) n = HasOrdinalDate y o n
IsOnDay (Week y w d) n = HasIsoWeekDate y w (d - 1) n

-- m is the number of a month.
abbrev pub IsMonth : ℕ → Type 0
IsMonth m = (1 ≤ m) × (m ≤ 12)

-- The first component out of range: the month, then the year, then the components that depend on
-- them.
abbrev pub IsDateError : DateNumbers → ComponentRange → Type 0
IsDateError (Calendar y m d) why =
    ((why ≡ month_out_of_range) × ¬ IsMonth m) ⊎ ((why ≡ year_out_of_range) × (IsMonth m × ¬ IsYear y))
    ⊎ ((why ≡ day_out_of_range) × (IsMonth m × IsYear y × ¬ IsDayOfMonth y m d))
IsDateError (Ordinal y o) why = ((why ≡ year_out_of_range) × ¬ IsYear y) ⊎ ((why ≡ ordinal_out_of_range) × (IsYear y × ¬ IsOrdinal y o))
IsDateError (Week y w d) why =
    ((why ≡ year_out_of_range) × ¬ IsYear y) ⊎ ((why ≡ week_out_of_range) × (IsYear y × ¬ IsWeek y w))
    ⊎ ((why ≡ weekday_out_of_range) × (IsYear y × IsWeek y w × NoDate (HasIsoWeekDate y w (d - 1))))
