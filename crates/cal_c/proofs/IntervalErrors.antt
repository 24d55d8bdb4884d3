-- An error of parsing an interval names the part out of range, or the position at which the text stops
-- matching the form.
use Rattle.std.proofs.Common.{◌≡◌, ℕ, ℤ, List, None, Some, ap, inl, inr, refl, sym}
use Rattle.std.proofs.lemmas.Option.{none-some, same_Some}
use Rattle.cal_interval.specs.Parsing.{component_of, IsErrorAtStop}
use Rattle.cal_interval.specs.declared.error.IntervalComponent.{IntervalComponent}
use Rattle.cal_interval.specs.declared.error.ParseIntervalError.{ParseIntervalError}
use Rattle.cal_interval.specs.declared.error.ParseIntervalError.TheVariants.{UnexpectedByte, UnexpectedEnd, OutOfRange}
use Rattle.cal_c.specs.declared.status.TheConstants.{UNEXPECTED_BYTE, UNEXPECTED_END}
use Rattle.cal_c.specs.Intervals.{interval_part_status, of_interval_error}
use Rattle.cal_c.specs.Texts.{IsSyntaxError, no_position}

pub unreadable : {R : Type 0} (error_at : ℤ → ℕ → R) (IsText : List ℕ → Type 0) (text : List ℕ) (e : ParseIntervalError) (r : R) → component_of e ≡ None
    → IsErrorAtStop IsText text e → r ≡ of_interval_error error_at e → IsSyntaxError IsText text error_at r
unreadable error_at IsText text (UnexpectedByte at) r none is gives = (at, UNEXPECTED_BYTE, record { position = is.0; status = inl (refl, is.1) }, gives)
unreadable error_at IsText text (UnexpectedEnd at) r none is gives = (at, UNEXPECTED_END, record { position = is.0; status = inr (refl, is.1) }, gives)
unreadable error_at IsText text (OutOfRange why) r none is gives = absurd (none-some why (sym none))

pub refused : {R : Type 0} (error_at : ℤ → ℕ → R) (e : ParseIntervalError) (why : IntervalComponent) → component_of e ≡ Some why
    → of_interval_error error_at e ≡ error_at (interval_part_status why) no_position
refused error_at (UnexpectedByte at) why e = absurd (none-some why e)
refused error_at (UnexpectedEnd at) why e = absurd (none-some why e)
refused error_at (OutOfRange found) why e = ap (λ x. error_at (interval_part_status x) no_position) (same_Some found why e)
