-- The lines of an event say one set, or have one first error.
use Rattle.std.proofs.Common.{◌≡◌, ◌⊎◌, ℕ, ap, sym, ◌∙◌, arith, inl, inr, List, None, Option, Some, Result, Ok, Err, take}
use Rattle.std.proofs.lemmas.Bool.{cases_lt}
use Rattle.cal_recurrence.specs.SetText.{error_at, parts_from, parts_of, size_of, SaysSet}
use Rattle.cal_recurrence.specs.Words.{parts_at}
use Rattle.cal_recurrence.specs.declared.date_or_time.DateOrTime.{DateOrTime}
use Rattle.cal_recurrence.specs.declared.set_fault.ParseSetError.{ParseSetError}
use Rattle.cal_recurrence.specs.declared.set_fault.ParseSetErrorKind.{ParseSetErrorKind}
use Rattle.cal_recurrence.specs.declared.set_parts.SetParts.{SetParts}
use Rattle.cal_ics.specs.EventSet.{set_lines_of, HasNoStart, IsEventSet, IsSetLineError}
use Rattle.cal_c.proofs.Days.{either}

start-one : (found : Option DateOrTime) (a b : DateOrTime) → found ≡ Some a → found ≡ Some b → a ≡ b
start-one found a b e f = cc

reason-one : (found : Option ParseSetErrorKind) (a b : ParseSetErrorKind) → found ≡ Some a → found ≡ Some b → a ≡ b
reason-one found a b e f = cc

no-error : (found : Option ParseSetErrorKind) (a : ParseSetErrorKind) → found ≡ None → found ≡ Some a → ⊥
no-error found a e f = cc

no-start : (found : Option DateOrTime) (a : DateOrTime) → found ≡ None → found ≡ Some a → ⊥
no-start found a e f = cc

parts-one : (lines : List (List ℕ)) (p q : SetParts) → SaysSet lines p → SaysSet lines q → p ≡ q
parts-one lines p q a b = a.is ∙ ap (parts_from (parts_of lines)) (start-one (parts_of lines).start p.start q.start a.start b.start) ∙ sym b.is

same-line : (text : List ℕ) (e f : ParseSetError) (a : IsSetLineError text e) (b : IsSetLineError text f) → a.line ≡ b.line → e ≡ f
same-line text e f a b same =
    let position : e.position ≡ f.position = a.position ∙ ap (λ n. size_of (take n (parts_at 10 text))) same ∙ sym b.position in
    let reason : e.reason ≡ f.reason = reason-one (error_at (set_lines_of text) b.line) e.reason f.reason (ap (error_at (set_lines_of text)) (sym same) ∙ a.reason) b.reason in
    λ i. record { position = position i; reason = reason i }

line-one : (text : List ℕ) (e f : ParseSetError) → IsSetLineError text e → IsSetLineError text f → e ≡ f
line-one text e f a b = either (cases_lt a.line b.line)
    (λ less. absurd (no-error (error_at (set_lines_of text) a.line) e.reason (b.first a.line less) a.reason))
    (λ past. either (cases_lt b.line a.line)
    (λ less. absurd (no-error (error_at (set_lines_of text) b.line) f.reason (a.first b.line less) b.reason))
    (λ other. same-line text e f a b (omega (arith, past, other))))

error-one : (text : List ℕ) (e f : ParseSetError) → IsSetLineError text e ⊎ HasNoStart text e → IsSetLineError text f ⊎ HasNoStart text f → e ≡ f
error-one text e f (inl a) (inl b) = line-one text e f a b
error-one text e f (inl a) (inr b) = absurd (no-error (error_at (set_lines_of text) a.line) e.reason (b.valid a.line) a.reason)
error-one text e f (inr a) (inl b) = absurd (no-error (error_at (set_lines_of text) b.line) f.reason (a.valid b.line) b.reason)
error-one text e f (inr a) (inr b) = a.is ∙ sym b.is

not-both : (text : List ℕ) (p : SetParts) (e : ParseSetError) → SaysSet (set_lines_of text) p → IsSetLineError text e ⊎ HasNoStart text e → ⊥
not-both text p e a (inl b) = no-error (error_at (set_lines_of text) b.line) e.reason (a.valid b.line) b.reason
not-both text p e a (inr b) = no-start (parts_of (set_lines_of text)).start p.start b.start a.start

pub event_set-one : (text : List ℕ) (r s : Result SetParts ParseSetError) → IsEventSet text r → IsEventSet text s → r ≡ s
event_set-one text (Ok p) (Ok q) a b = ap Ok (parts-one (set_lines_of text) p q a b)
event_set-one text (Ok p) (Err f) a b = absurd (not-both text p f a b)
event_set-one text (Err e) (Ok q) a b = absurd (not-both text q e b a)
event_set-one text (Err e) (Err f) a b = ap Err (error-one text e f a b)
