-- Why a text is rejected.
use Rattle.std.specs.Prelude.{◌≡◌, ◌⊎◌, ℕ, ◌<◌, List, length, Some, None, Result, Ok, IfOk, IfErr}
use Rattle.cal_units.specs.declared.error.Component.{Component as Named}
use Rattle.cal_units.specs.declared.error.ComponentRange.{ComponentRange}
use Rattle.cal_text.specs.Position.{IsPosition}
use Rattle.cal_format.specs.declared.error.ParseError.{ParseError}
use Rattle.cal_format.specs.declared.error.ParseError.TheVariants.{UnexpectedByte, UnexpectedEnd, OutOfRange, Contradiction}
use Rattle.cal_format.specs.declared.item.Item.{Item}
use Rattle.cal_format.specs.declared.moment.Moment.{Moment}
use Rattle.cal_format.specs.Form.{HasForm, HasNumbers}
use Rattle.cal_format.specs.Ranges.{first_range_error}
use Rattle.cal_format.specs.Text.{text_of}
use Rattle.cal_format.specs.Values.{Holds, IsPrinted, number_in, value_error, IsMomentOf, first_contradiction}

-- A number is out of range, or the numbers are in range but no moment has them.
abbrev pub IsRangeError : List Item → List ℕ → ComponentRange → Type 0
IsRangeError items numbers why =
    (first_range_error items numbers ≡ Some why)
    ⊎ ((first_range_error items numbers ≡ None) × (why ≡ value_error items) × ((v : Moment) → ¬ IsMomentOf items (number_in items numbers) v))

-- The numbers are in range and determine a moment, and this is the component of the first item
-- whose number isn't the number of that moment.
abbrev pub IsContradiction : List Item → List ℕ → Named → Type 0
IsContradiction items numbers c =
    (first_range_error items numbers ≡ None) × ((v : Moment) × IsMomentOf items (number_in items numbers) v × (first_contradiction items numbers v ≡ Some c))

-- The error of numbers that are not the numbers of a moment that the items hold.
abbrev pub IsNumberRejection : List Item → List ℕ → ParseError → Type 0
IsNumberRejection items numbers (OutOfRange why) = IsRangeError items numbers why
IsNumberRejection items numbers (Contradiction c) = IsContradiction items numbers c
IsNumberRejection items numbers e = ⊥

-- An error names the position at which the text stops matching the form. If the text has the form,
-- the error is an error of its numbers.
abbrev pub IsRejection : List Item → List ℕ → ParseError → Type 0
IsRejection items text (UnexpectedByte p) = IsPosition (HasForm items) text p × (p < length text)
IsRejection items text (UnexpectedEnd p) = IsPosition (HasForm items) text p × (p ≡ length text) × ¬ HasForm items text
IsRejection items text e = (numbers : List ℕ) × HasNumbers items numbers text × IsNumberRejection items numbers e

-- The result is the moment that the items hold and print as the text, or says why there is none.
pub record IsParsed (items : List Item) (text : List ℕ) (r : Result Moment ParseError) : Type 0 where
  pub every : (v : Moment) → Holds items v → text ≡ text_of items v → r ≡ Ok v
  pub value : IfOk r (λ v. IsPrinted items v text)
  pub error : IfErr r (IsRejection items text)
