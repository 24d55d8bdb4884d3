-- Why a string isn't read in a format.
use Rattle.std.specs.Prelude.{◌≡◌, ◌⊎◌, ℕ, List, Result, Ok, Err, IfOk, IfErr}
use Rattle.cal_time.specs.ComponentError.{conditional}
use Rattle.cal_time.specs.declared.error.Component.{Component}
use Rattle.cal_time.specs.declared.error.ComponentRange.{ComponentRange}
use Rattle.cal_format.specs.Lenient.{IsLenientRejection}
use Rattle.cal_format.specs.Rejection.{IsRejection}
use Rattle.cal_format.specs.declared.error.ParseError.{ParseError}
use Rattle.cal_format.specs.declared.error.ParseError.TheVariants.{Contradiction, OutOfRange}
use Rattle.cal_named_format.specs.Rejection.{IsRejectionIn}
use Rattle.cal_text.specs.declared.any.DateOrMoment.{DateOrMoment}
use Rattle.caldate_answers.specs.Languages.{kind_items}
use Rattle.caldate_answers.specs.Variants.{lenient_of}
use Rattle.caldate_answers.specs.declared.reading.value_format.ValueFormat.{ValueFormat}
use Rattle.caldate_answers.specs.declared.reading.value_format.ValueFormat.TheVariants.{Dates, Moments, DateTimes, Lenient, InLanguage}
use Rattle.caldate_lines.specs.declared.no_answer.NoAnswer.{NoAnswer}
use Rattle.caldate_lines.specs.declared.no_answer.NoAnswer.TheVariants as why

-- A format rejects a string that has its form because of this component, which is out of range or
-- isn't the one that the others determine.
abbrev pub IsComponentError : (ParseError → Type 0) → ComponentRange → Type 0
IsComponentError IsRejected any = IsRejected (OutOfRange any) ⊎ ((name : Component) × IsRejected (Contradiction name) × (any ≡ conditional name))

abbrev pub IsFormatError : ValueFormat → List ℕ → ComponentRange → Type 0
IsFormatError (Dates items) text any = IsComponentError (IsRejection items text) any
IsFormatError (Moments items) text any = IsComponentError (IsRejection items text) any
IsFormatError (DateTimes items) text any = IsComponentError (IsRejection items text) any
IsFormatError (Lenient format) text any = IsComponentError (IsLenientRejection (lenient_of format) text) any
IsFormatError (InLanguage format) text any = IsComponentError (IsRejectionIn format.0 (kind_items format.1) text) any

-- The reason names the component, or says that the string doesn't have the form.
abbrev pub IsReasonBy : (ComponentRange → Type 0) → NoAnswer → Type 0
IsReasonBy IsError any =
    ((component : ComponentRange) × IsError component × (any ≡ why.Rejected component)) ⊎ (((component : ComponentRange) → ¬ IsError component) × (any ≡ why.NoForm))

-- The reason for an error of a parser.
abbrev pub format_reason_of : ParseError → NoAnswer
format_reason_of (OutOfRange component) = why.Rejected component
format_reason_of (Contradiction name) = why.Rejected (conditional name)
format_reason_of other = why.NoForm

-- The result is the date or moment of the string, or says why it has none.
pub record IsReadBy (IsText : DateOrMoment → Type 0) (IsError : ComponentRange → Type 0) (r : Result DateOrMoment NoAnswer) : Type 0 where
  pub every : (found : DateOrMoment) → IsText found → r ≡ Ok found
  pub value : IfOk r IsText
  pub every_error : (any : NoAnswer) → ((found : DateOrMoment) → ¬ IsText found) → IsReasonBy IsError any → r ≡ Err any
  pub error : IfErr r (IsReasonBy IsError)
