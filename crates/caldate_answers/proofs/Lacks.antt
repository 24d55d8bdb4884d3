-- A text that a form doesn't read, by what its parser says of it.
use Rattle.std.proofs.Common.{◌≡◌, ◌∙◌, ℕ, List, Some, None, Result, Ok, Err, ap, inl, inr, refl, subst, sym}
use Rattle.std.specs.Prelude.{◌↔◌, IfErr, IsSomeAnd}
use Rattle.caldate_answers.specs.Spellings.{full_by}
use Rattle.std.proofs.lemmas.Option.{none-some, same_Some}
use Rattle.cal_time.specs.declared.error.ComponentRange.{ComponentRange}
use Rattle.cal_text.specs.AnyForm.{IsDateOrMomentError}
use Rattle.cal_text.specs.Position.{IsErrorAtStop}
use Rattle.cal_text.specs.Parsing.{FailsWithComponent, FailsWithSyntax}
use Rattle.cal_text.specs.declared.any.DateOrMoment.{DateOrMoment}
use Rattle.cal_text.specs.declared.error.ParseError.{ParseError}
use Rattle.cal_text.specs.declared.error.ParseError.TheVariants.{UnexpectedByte, UnexpectedEnd, OutOfRange}
use Rattle.cal_text.proofs.Positions.{one_position}
use Rattle.cal_zone.specs.declared.local_time_error.LocalTimeError.TheVariants.{Skipped, Repeated}
use Rattle.caldate_answers.specs.Readers.{IsSpellingError, IsUnreadIn, IsUnspelled}
use Rattle.caldate_answers.specs.Readings.{HasFormIn, IsErrorIn}
use Rattle.caldate_lines.specs.Reasons.{brief_reason_of, reason_of}
use Rattle.caldate_lines.specs.declared.no_answer.NoAnswer.{NoAnswer}
use Rattle.caldate_lines.specs.declared.no_answer.NoAnswer.TheVariants as why
use Rattle.caldate_answers.specs.declared.reading.Reading.{Reading}
use Rattle.caldate_answers.specs.declared.reading.spelling.Spelling.{Spelling}

pub is_unread : (reading : Reading) (text : List ℕ) (error : ParseError)
    → (FailsWithSyntax {V = DateOrMoment} (Err error) ↔ ¬ HasFormIn reading text)
    → ((why : ComponentRange) → FailsWithComponent {V = DateOrMoment} why (Err error) ↔ IsErrorIn reading text why)
    → IsErrorAtStop (HasFormIn reading) text error → IsUnreadIn reading text (reason_of error)
is_unread reading text (UnexpectedByte at) form component stop = (form.0 refl, stop.0)
is_unread reading text (UnexpectedEnd at) form component stop = (form.0 refl, stop.0)
is_unread reading text (OutOfRange e) form component stop = (component e).0 refl

-- what the parser says, as an answer
abbrev pub with_reason : Result DateOrMoment ParseError → Result DateOrMoment NoAnswer
with_reason (Ok found) = Ok found
with_reason (Err error) = Err (reason_of error)

pub lacks_only : (reading : Reading) (text : List ℕ) (r : Result DateOrMoment ParseError) (any : NoAnswer)
    → (FailsWithSyntax r ↔ ¬ HasFormIn reading text) → ((why : ComponentRange) → FailsWithComponent why r ↔ IsErrorIn reading text why)
    → IfErr r (IsErrorAtStop (HasFormIn reading) text) → IsUnreadIn reading text any → with_reason r ≡ Err any
lacks_only reading text (Ok found) (why.Rejected e) form component stop h = absurd ((component e).1 h)
lacks_only reading text (Ok found) (why.Unreadable at) form component stop h = absurd (form.1 h.0)
lacks_only reading text (Err (OutOfRange o)) (why.Rejected e) form component stop h = ap (λ e. Err (why.Rejected e)) (same_Some o e ((component e).1 h))
lacks_only reading text (Err (OutOfRange o)) (why.Unreadable at) form component stop h = absurd (none-some o (sym (form.1 h.0)))
lacks_only reading text (Err (UnexpectedByte p)) (why.Rejected e) form component stop h = absurd (none-some e ((component e).1 h))
lacks_only reading text (Err (UnexpectedByte p)) (why.Unreadable at) form component stop h =
    ap (λ at. Err (why.Unreadable at)) (one_position (HasFormIn reading) text p at stop.0 h.1)
lacks_only reading text (Err (UnexpectedEnd p)) (why.Rejected e) form component stop h = absurd (none-some e ((component e).1 h))
lacks_only reading text (Err (UnexpectedEnd p)) (why.Unreadable at) form component stop h =
    ap (λ at. Err (why.Unreadable at)) (one_position (HasFormIn reading) text p at stop.0 h.1)
lacks_only reading text r why.TooLong form component stop h = absurd h
lacks_only reading text r (why.NoField missing) form component stop h = absurd h
lacks_only reading text r why.UnreadOtherField form component stop h = absurd h
lacks_only reading text r why.None form component stop h = absurd h
lacks_only reading text r why.NoForm form component stop h = absurd h
lacks_only reading text r why.Skipped form component stop h = absurd h
lacks_only reading text r why.Repeated form component stop h = absurd h

-- ---- a spelling gives no position
abbrev failed : NoAnswer → Result DateOrMoment NoAnswer
failed any = Err any

abbrev Fails : List ℕ → ParseError → Type 0
Fails full error = (why : ComponentRange) → FailsWithComponent {V = DateOrMoment} why (Err error) ↔ IsDateOrMomentError full why

in_full : (s : Spelling) (text full : List ℕ) (e : ComponentRange) → full_by s text ≡ Some full → IsSpellingError s text e → IsDateOrMomentError full e
in_full s text full e is h = subst (λ o. IsSomeAnd o (λ full. IsDateOrMomentError full e)) is h

in_text : (s : Spelling) (text full : List ℕ) (e : ComponentRange) → full_by s text ≡ Some full → IsDateOrMomentError full e → IsSpellingError s text e
in_text s text full e is h = subst (λ o. IsSomeAnd o (λ full. IsDateOrMomentError full e)) (sym is) h

pub is_unspelled : (s : Spelling) (text full : List ℕ) (error : ParseError) → full_by s text ≡ Some full → Fails full error → IsUnspelled s text (brief_reason_of error)
is_unspelled s text full (OutOfRange o) is fails = inl (o, in_text s text full o is ((fails o).0 refl), refl)
is_unspelled s text full (UnexpectedByte p) is fails = inr (λ e h. none-some e ((fails e).1 (in_full s text full e is h)), refl)
is_unspelled s text full (UnexpectedEnd p) is fails = inr (λ e h. none-some e ((fails e).1 (in_full s text full e is h)), refl)

pub unspelled_only : (s : Spelling) (text full : List ℕ) (error : ParseError) (any : NoAnswer) → full_by s text ≡ Some full → Fails full error → IsUnspelled s text any
    → Err (brief_reason_of error) ≡ failed any
unspelled_only s text full (OutOfRange o) any is fails (inl h) = ap Err (ap why.Rejected (same_Some o h.0 ((fails h.0).1 (in_full s text full h.0 is h.1))) ∙ sym h.2)
unspelled_only s text full (OutOfRange o) any is fails (inr h) = absurd (h.0 o (in_text s text full o is ((fails o).0 refl)))
unspelled_only s text full (UnexpectedByte p) any is fails (inl h) = absurd (none-some h.0 ((fails h.0).1 (in_full s text full h.0 is h.1)))
unspelled_only s text full (UnexpectedByte p) any is fails (inr h) = ap Err (sym h.1)
unspelled_only s text full (UnexpectedEnd p) any is fails (inl h) = absurd (none-some h.0 ((fails h.0).1 (in_full s text full h.0 is h.1)))
unspelled_only s text full (UnexpectedEnd p) any is fails (inr h) = ap Err (sym h.1)
