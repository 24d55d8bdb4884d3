-- The errors of an interval in text.
use Rattle.std.specs.Prelude.{◌≡◌, ℕ, ◌<◌, List, Option, Some, None, Result, IsErrAnd, length}
use Rattle.cal_text.specs.Position.{IsPosition}
use Rattle.cal_interval.specs.declared.error.IntervalComponent.{IntervalComponent}
use Rattle.cal_interval.specs.declared.error.ParseIntervalError.{ParseIntervalError}
use Rattle.cal_interval.specs.declared.error.ParseIntervalError.TheVariants.{UnexpectedByte, UnexpectedEnd, OutOfRange}

-- The part that an error names. An error of the form names none.
abbrev pub component_of : ParseIntervalError → Option IntervalComponent
component_of (UnexpectedByte at) = None
component_of (UnexpectedEnd at) = None
component_of (OutOfRange c) = Some c

-- The text was rejected for this part.
abbrev pub FailsWithComponent : {V : Type 0} → IntervalComponent → Result V ParseIntervalError → Type 0
FailsWithComponent why r = IsErrAnd r (λ e. component_of e ≡ Some why)

-- The text was rejected for its form.
abbrev pub FailsWithSyntax : {V : Type 0} → Result V ParseIntervalError → Type 0
FailsWithSyntax r = IsErrAnd r (λ e. component_of e ≡ None)

-- The bytes have a form with this error.
abbrev pub HasError : {F : Type 0} → (List ℕ → F → Type 0) → (F → IntervalComponent → Type 0) → List ℕ → IntervalComponent → Type 0
HasError {F} Has IsError bytes why = (form : F) × Has bytes form × IsError form why

-- An error names the position at which the text stops matching: a byte of the text, or its end. An
-- error of a part names none.
abbrev pub IsErrorAtStop : (List ℕ → Type 0) → List ℕ → ParseIntervalError → Type 0
IsErrorAtStop IsText text (UnexpectedByte p) = IsPosition IsText text p × (p < length text)
IsErrorAtStop IsText text (UnexpectedEnd p) = IsPosition IsText text p × (p ≡ length text)
IsErrorAtStop IsText text (OutOfRange why) = Unit {0}
