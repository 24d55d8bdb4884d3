-- An error of parsing names the component out of range, or the position at which the text stops
-- matching the form.
use Rattle.std.proofs.Common.{◌≡◌, ℕ, ℤ, List, None, Some, ap, inl, inr, refl, sym}
use Rattle.std.proofs.lemmas.Option.{none-some, same_Some}
use Rattle.cal_time.specs.declared.error.ComponentRange.{ComponentRange}
use Rattle.cal_text.specs.Position.{IsErrorAtStop}
use Rattle.cal_text.specs.Parsing.{component_of}
use Rattle.cal_text.specs.declared.error.ParseError.{ParseError}
use Rattle.cal_text.specs.declared.error.ParseError.TheVariants.{UnexpectedByte, UnexpectedEnd, OutOfRange}
use Rattle.cal_c.specs.declared.status.TheConstants.{UNEXPECTED_BYTE, UNEXPECTED_END}
use Rattle.cal_c.specs.Statuses.{component_status}
use Rattle.cal_c.specs.Texts.{IsSyntaxError, no_position}
use Rattle.cal_c.specs.ParseErrors.{of_parse_error}

pub unreadable : {R : Type 0} (error_at : ℤ → ℕ → R) (IsText : List ℕ → Type 0) (text : List ℕ) (e : ParseError) (r : R) → component_of e ≡ None
    → IsErrorAtStop IsText text e → r ≡ of_parse_error error_at e → IsSyntaxError IsText text error_at r
unreadable error_at IsText text (UnexpectedByte at) r none is gives = (at, UNEXPECTED_BYTE, record { position = is.0; status = inl (refl, is.1) }, gives)
unreadable error_at IsText text (UnexpectedEnd at) r none is gives = (at, UNEXPECTED_END, record { position = is.0; status = inr (refl, is.1) }, gives)
unreadable error_at IsText text (OutOfRange why) r none is gives = absurd (none-some why (sym none))

pub refused : {R : Type 0} (error_at : ℤ → ℕ → R) (e : ParseError) (why : ComponentRange) → component_of e ≡ Some why
    → of_parse_error error_at e ≡ error_at (component_status why.component) no_position
refused error_at (UnexpectedByte at) why e = absurd (none-some why e)
refused error_at (UnexpectedEnd at) why e = absurd (none-some why e)
refused error_at (OutOfRange found) why e = ap (λ x. error_at (component_status x.component) no_position) (same_Some found why e)
