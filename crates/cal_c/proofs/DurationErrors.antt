-- An error of parsing a duration names the part out of range, or the position at which the text stops
-- matching the form.
use Rattle.std.proofs.Common.{◌≡◌, ◌⊎◌, ◌↔◌, ℕ, ℤ, List, Option, Result, Ok, Err, IfOk, None, Some, ap, inl, inr, refl, sym}
use Rattle.std.proofs.lemmas.Option.{none-some, same_Some}
use Rattle.cal_duration.specs.Parsing.{component_of, FailsWithComponent, FailsWithSyntax, IsErrorAtStop}
use Rattle.cal_duration.specs.declared.error.DurationComponent.{DurationComponent}
use Rattle.cal_duration.specs.declared.error.ParseDurationError.{ParseDurationError}
use Rattle.cal_duration.specs.declared.error.ParseDurationError.TheVariants.{UnexpectedByte, UnexpectedEnd, OutOfRange}
use Rattle.cal_c.specs.declared.status.TheConstants.{UNEXPECTED_BYTE, UNEXPECTED_END}
use Rattle.cal_c.specs.DurationTexts.{duration_part_status, of_duration_error}
use Rattle.cal_c.specs.Texts.{IsSyntaxError, no_position}

pub unreadable : {R : Type 0} (error_at : ℤ → ℕ → R) (IsText : List ℕ → Type 0) (text : List ℕ) (e : ParseDurationError) (r : R) → component_of e ≡ None
    → IsErrorAtStop IsText text e → r ≡ of_duration_error error_at e → IsSyntaxError IsText text error_at r
unreadable error_at IsText text (UnexpectedByte at) r none is gives = (at, UNEXPECTED_BYTE, record { position = is.0; status = inl (refl, is.1) }, gives)
unreadable error_at IsText text (UnexpectedEnd at) r none is gives = (at, UNEXPECTED_END, record { position = is.0; status = inr (refl, is.1) }, gives)
unreadable error_at IsText text (OutOfRange why) r none is gives = absurd (none-some why (sym none))

pub refused : {R : Type 0} (error_at : ℤ → ℕ → R) (e : ParseDurationError) (why : DurationComponent) → component_of e ≡ Some why
    → of_duration_error error_at e ≡ error_at (duration_part_status why) no_position
refused error_at (UnexpectedByte at) why e = absurd (none-some why e)
refused error_at (UnexpectedEnd at) why e = absurd (none-some why e)
refused error_at (OutOfRange found) why e = ap (λ x. error_at (duration_part_status x) no_position) (same_Some found why e)

-- The cases of a result: a value, no form, or a part out of range.
by_error : {F : Type 0} {Has : F → Type 0} {IsFault : DurationComponent → Type 0} (found o : Option DurationComponent)
    → (found ≡ None) ↔ ((form : F) → ¬ Has form) → ((why : DurationComponent) → (found ≡ Some why) ↔ IsFault why) → found ≡ o
    → (¬ ((form : F) × Has form)) ⊎ ((why : DurationComponent) × IsFault why)
by_error found None form part e = inl (λ has. form.0 e has.0 has.1)
by_error found (Some why) form part e = inr (why, (part why).0 e)

pub cases : {V F : Type 0} {Is : V → Type 0} {Has : F → Type 0} {IsFault : DurationComponent → Type 0} (r : Result V ParseDurationError) → IfOk r Is
    → FailsWithSyntax r ↔ ((form : F) → ¬ Has form) → ((why : DurationComponent) → FailsWithComponent why r ↔ IsFault why)
    → ((v : V) × Is v) ⊎ (¬ ((form : F) × Has form)) ⊎ ((why : DurationComponent) × IsFault why)
cases (Ok v) has form part = inl (v, has)
cases (Err e) has form part = inr (by_error (component_of e) (component_of e) form part refl)
