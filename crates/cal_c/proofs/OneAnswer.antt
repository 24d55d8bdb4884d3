-- The clauses of the call that reads the text of a recurrence leave one answer.
use Rattle.std.proofs.Common.{◌≡◌, ℕ, ap, ◌∙◌, sym, arith, filter, nat_le, length, List, ℤ, pos, Option, Some, None, SomeIff, Result, Ok, Err, ◌⊎◌, inl, inr}
use Rattle.std.proofs.lemmas.Bool.{cases_lt}
use Rattle.std.proofs.lemmas.List.{ext_get_or}
use Rattle.cal_recurrence.specs.Days.{days_of}
use Rattle.cal_recurrence.specs.Text.{day_recurrence_of}
use Rattle.cal_recurrence.specs.declared.fault.ParseRuleError.{ParseRuleError}
use Rattle.cal_recurrence.specs.declared.recurrence.Recurrence.{Recurrence}
use Rattle.cal_c.proofs.Days.{either}
use Rattle.cal_c.specs.RecurrenceTexts.{recurrence_ok, recurrence_error, recurrence_parse_error}
use Rattle.cal_c.specs.Recurrences.{AreDatesWritten}
use Rattle.cal_c.specs.declared.status.TheConstants.{INVALID_DATE}
use Rattle.cal_c.specs.Values.{IsJulianDay, day_of}
use Rattle.cal_c.specs.declared.schedule.recurrences.results.RecurrenceResult.{RecurrenceResult}

pub decided : {P : Type 0} (r : Option ℕ) (v : ℕ) → SomeIff r P v → P ⊎ (¬ P)
decided None v h = inr h
decided (Some x) v h = inl h.0

-- Writing over an array has one result.
pub written-one : (ns : List ℕ) (old a b : List ℤ) (n m : ℕ) → length a ≡ length b → AreDatesWritten ns old a n → AreDatesWritten ns old b m → (n ≡ m) × (a ≡ b)
written-one ns old a b n m lengths p q =
    let count : n ≡ m = p.count_is ∙ sym q.count_is in (
      count,
      ext_get_or (pos 0) a b lengths (λ k within. either (cases_lt k n)
          (λ less. p.days k less ∙ sym (q.days k (omega (arith, less, count))))
          (λ past. p.others k past ∙ sym (q.others k (omega (arith, past, count))))),
    )

-- the last clause of a call, of a recurrence and two dates
abbrev pub IsAnswer : Recurrence → ℤ → ℤ → List ℤ → List ℤ → RecurrenceResult → Type 0
IsAnswer its start from old new r =
    (r ≡ recurrence_ok r.length) × AreDatesWritten (filter (nat_le (day_of from)) (days_of its (day_of start))) old new r.length

answer-one : (its : Recurrence) (start from : ℤ) (old a b : List ℤ) (r s : RecurrenceResult) → length a ≡ length b
    → IsAnswer its start from old a r → IsAnswer its start from old b s → (r ≡ s) × (a ≡ b)
answer-one its start from old a b r s lengths (e, v) (f, w) =
    let both = written-one _ old a b r.length s.length lengths v w in
    (e ∙ ap recurrence_ok both.0 ∙ sym f, both.1)

-- all of them
pub record Clauses (text : List ℕ) (start from : ℤ) (old new : List ℤ) (r : RecurrenceResult) : Type 0 where
  pub unread : (fault : ParseRuleError) → day_recurrence_of text ≡ Err fault → (r ≡ recurrence_parse_error fault) × (new ≡ old)
  pub invalid_date : (its : Recurrence) → day_recurrence_of text ≡ Ok its → ¬ (IsJulianDay start × IsJulianDay from)
      → (r ≡ recurrence_error INVALID_DATE) × (new ≡ old)
  pub days : (its : Recurrence) → day_recurrence_of text ≡ Ok its → IsJulianDay start → IsJulianDay from → IsAnswer its start from old new r

pub recurrence-one : (text : List ℕ) (start from : ℤ) (old a b : List ℤ) (r s : RecurrenceResult) (x : Result Recurrence ParseRuleError)
    → day_recurrence_of text ≡ x → IsJulianDay start ⊎ (¬ IsJulianDay start) → IsJulianDay from ⊎ (¬ IsJulianDay from) → length a ≡ length b
    → Clauses text start from old a r → Clauses text start from old b s → (r ≡ s) × (a ≡ b)
recurrence-one text start from old a b r s (Err fault) e either_start either_from lengths p q =
    let one = p.unread fault e in
    let other = q.unread fault e in (one.0 ∙ sym other.0, one.1 ∙ sym other.1)
recurrence-one text start from old a b r s (Ok its) e either_start either_from lengths p q =
    let refused : ¬ (IsJulianDay start × IsJulianDay from) → (r ≡ s) × (a ≡ b) = λ out.
    let one = p.invalid_date its e out in
    let other = q.invalid_date its e out in (one.0 ∙ sym other.0, one.1 ∙ sym other.1) in
    either either_start
    (λ is_start. either either_from
    (λ is_from. answer-one its start from old a b r s lengths (p.days its e is_start is_from) (q.days its e is_start is_from))
    (λ out. refused (λ both. out both.1)))
    (λ out. refused (λ both. out both.0))
