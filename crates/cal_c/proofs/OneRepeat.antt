-- The clauses of the calls for repeated intervals leave one result.
use Rattle.std.proofs.Common.{◌≡◌, ◌∙◌, ◌-◌, ℕ, ap, arith, inl, inr, sym, Option, Result, Ok, Err, IfErr, IfOk}
use Rattle.std.proofs.lemmas.Int.{ints}
use Rattle.std.specs.Prelude.{ℤ}
use Rattle.cal_schedule.specs.Period.{Parts}
use Rattle.cal_schedule.specs.Steps.{IsRepeated}
use Rattle.cal_interval.specs.DateTimeRepeats as pairs
use Rattle.cal_interval.specs.Repeats.{AreRepeatedDays, IsDaysError, IsIntervalError, IsIntervalRepeated, IsPeriodError, IsRepeatError, IsRepeatOf}
use Rattle.cal_interval.specs.declared.date.interval.DateInterval.{DateInterval}
use Rattle.cal_interval.specs.declared.date.interval.DateInterval.TheVariants.{StartAndEnd, StartAndPeriod, PeriodAndEnd}
use Rattle.cal_interval.specs.declared.date.repeated.RepeatedDates.{RepeatedDates}
use Rattle.cal_interval.specs.declared.error.IntervalError.{IntervalError}
use Rattle.cal_interval.specs.declared.plain.interval.DateTimeInterval.{DateTimeInterval}
use Rattle.cal_interval.specs.declared.plain.interval.DateTimeInterval.TheVariants as plain
use Rattle.cal_interval.specs.declared.plain.repeated.RepeatedDateTimes.{RepeatedDateTimes}
use Rattle.cal_c.specs.Intervals.{dates_or_error, repeated_pairs_or_error, IsRepeatedDatesResult, IsRepeatedPairsResult, IsRepeatedResult}
use Rattle.cal_c.specs.declared.texts.intervals.repeated_pairs.ParseRepeatedPairsResult.{ParseRepeatedPairsResult}
use Rattle.cal_c.specs.declared.texts.intervals.repeats.ParseRepeatedDatesResult.{ParseRepeatedDatesResult}

-- ---- of any values: an interval has one repetition or one error, and never both
record IsOne {I R : Type 0} (Is : I → Option ℕ → R → Type 0) (IsError : I → IntervalError → Type 0) (v : I) : Type 0 where
  value : (count : Option ℕ) (a b : R) → Is v count a → Is v count b → a ≡ b
  error : (d e : IntervalError) → IsError v d → IsError v e → d ≡ e
  apart : (count : Option ℕ) (r : R) (e : IntervalError) → Is v count r → IsError v e → ⊥

apart : {I R : Type 0} (Is : I → Option ℕ → R → Type 0) (IsError : I → IntervalError → Type 0) (v : I) → IsOne Is IsError v → (count : Option ℕ) (r : R) (e : IntervalError)
    → IsRepeatOf Is count v r → IsRepeatError IsError count v e → ⊥
apart Is IsError v one count r e h (inl k) = k.1 h.0
apart Is IsError v one count r e h (inr k) = one.apart count r e h.1 k.1

error-one : {I R : Type 0} (Is : I → Option ℕ → R → Type 0) (IsError : I → IntervalError → Type 0) (v : I) → IsOne Is IsError v → (count : Option ℕ) (d e : IntervalError)
    → IsRepeatError IsError count v d → IsRepeatError IsError count v e → d ≡ e
error-one Is IsError v one count d e (inl h) (inl k) = h.0 ∙ sym k.0
error-one Is IsError v one count d e (inl h) (inr k) = absurd (h.1 k.0)
error-one Is IsError v one count d e (inr h) (inl k) = absurd (k.1 h.0)
error-one Is IsError v one count d e (inr h) (inr k) = one.error d e h.1 k.1

its-one : {I R : Type 0} (Is : I → Option ℕ → R → Type 0) (IsError : I → IntervalError → Type 0) (v : I) → IsOne Is IsError v → (count : Option ℕ) (a b : Result R IntervalError)
    → IfOk a (IsRepeatOf Is count v) → IfErr a (IsRepeatError IsError count v) → IfOk b (IsRepeatOf Is count v) → IfErr b (IsRepeatError IsError count v) → a ≡ b
its-one Is IsError v one count (Ok x) (Ok y) h h' k k' = ap Ok (one.value count x y h.1 k.1)
its-one Is IsError v one count (Ok x) (Err e) h h' k k' = absurd (apart Is IsError v one count x e h k')
its-one Is IsError v one count (Err d) (Ok y) h h' k k' = absurd (apart Is IsError v one count y d k h')
its-one Is IsError v one count (Err d) (Err e) h h' k k' = ap Err (error-one Is IsError v one count d e h' k')

result-one : {I R C : Type 0} (Is : I → Option ℕ → R → Type 0) (IsError : I → IntervalError → Type 0) (of : Result R IntervalError → C) (v : I) → IsOne Is IsError v
    → (count : Option ℕ) (r s : C) → IsRepeatedResult Is IsError of (count, v) r → IsRepeatedResult Is IsError of (count, v) s → r ≡ s
result-one Is IsError of v one count r s (a, h, h', e) (b, k, k', f) = e ∙ ap of (its-one Is IsError v one count a b h h' k k') ∙ sym f

-- ---- of dates
same : (a b : RepeatedDates) → a.start ≡ b.start → a.period ≡ b.period → a.count ≡ b.count → a ≡ b
same a b start period count = λ i. record { start = start i; period = period i; count = count i }

period_error-one : (p : Parts) (d e : IntervalError) → IsPeriodError p d → IsPeriodError p e → d ≡ e
period_error-one p d e (inl h) (inl k) = h.0 ∙ sym k.0
period_error-one p d e (inl h) (inr k) = absurd (h.1 k.1)
period_error-one p d e (inr h) (inl k) = absurd (k.1 h.1)
period_error-one p d e (inr h) (inr k) = h.0 ∙ sym k.0

days_error-one : (s t : ℕ) (d e : IntervalError) → IsDaysError s t d → IsDaysError s t e → d ≡ e
days_error-one s t d e (inl h) (inl k) = h.0 ∙ sym k.0
days_error-one s t d e (inl h) (inr k) = let a = h.1 in let b = k.1 in absurd (omega (arith, a, b))
days_error-one s t d e (inr h) (inl k) = let a = h.1 in let b = k.1 in absurd (omega (arith, a, b))
days_error-one s t d e (inr h) (inr k) = h.0 ∙ sym k.0

period_apart : (p : Parts) (e : IntervalError) → IsRepeated p → IsPeriodError p e → ⊥
period_apart p e h (inl k) = k.1 h.1
period_apart p e h (inr k) = k.2 h.0

days_apart : (s t : ℕ) (count : Option ℕ) (r : RepeatedDates) (e : IntervalError) → AreRepeatedDays s t count r.start r.period r.count → IsDaysError s t e → ⊥
days_apart s t count r e h (inl k) = let a = h.0 in let b = k.1 in absurd (omega (arith, a, b))
days_apart s t count r e h (inr k) = let a = h.0 in let b = k.1 in absurd (omega (arith, a, b))

dates : (v : DateInterval) → IsOne IsIntervalRepeated IsIntervalError v
dates (StartAndPeriod start period) =
    record {
      value = λ count a b h k. same a b (h.1 ∙ sym k.1) (h.2 ∙ sym k.2) (h.3 ∙ sym k.3);
      error = λ d e h k. period_error-one period d e h k;
      apart = λ count r e h k. period_apart period e h.0 k;
    }
dates (StartAndEnd start end) =
    record {
      value = λ count a b h k. same a b (h.1 ∙ sym k.1) (h.2 ∙ sym k.2) (h.3 ∙ sym k.3);
      error = λ d e h k. days_error-one start end d e h k;
      apart = λ count r e h k. days_apart start end count r e h k;
    }
dates (PeriodAndEnd period end) =
    record { value = λ count a b h k. absurd h; error = λ d e h k. h ∙ sym k; apart = λ count r e h k. h }

pub dates-one : (count : Option ℕ) (v : DateInterval) (r s : ParseRepeatedDatesResult) → IsRepeatedDatesResult (count, v) r → IsRepeatedDatesResult (count, v) s → r ≡ s
dates-one count v = result-one IsIntervalRepeated IsIntervalError dates_or_error v (dates v) count

-- ---- of local date-times
same_pairs : (a b : RepeatedDateTimes) → a.start ≡ b.start → a.period ≡ b.period → a.count ≡ b.count → a ≡ b
same_pairs a b start period count = λ i. record { start = start i; period = period i; count = count i }

ends_error-one : (s t : ℤ) (d e : IntervalError) → pairs.IsEndsError s t d → pairs.IsEndsError s t e → d ≡ e
ends_error-one s t d e (inl h) (inl k) = h.0 ∙ sym k.0
ends_error-one s t d e (inl h) (inr k) = let a = h.1 in let b = k.1 in absurd (omega (arith, ints, a, b))
ends_error-one s t d e (inr h) (inl k) = let a = h.1 in let b = k.1 in absurd (omega (arith, ints, a, b))
ends_error-one s t d e (inr h) (inr k) = h.0 ∙ sym k.0

ends_apart : (s t : ℤ) (count : Option ℕ) (r : RepeatedDateTimes) (e : IntervalError) → pairs.AreRepeatedExactly s t count r.start r.period r.count → pairs.IsEndsError s t e → ⊥
ends_apart s t count r e h (inl k) = let a = h.0 in let b = k.1 in absurd (omega (arith, ints, a, b))
ends_apart s t count r e h (inr k) = let a = h.0 in let b = k.1 in absurd (omega (arith, ints, a, b))

date_times : (v : DateTimeInterval) → IsOne pairs.IsIntervalRepeated pairs.IsIntervalError v
date_times (plain.StartAndPeriod start period) =
    record {
      value = λ count a b h k. same_pairs a b (h.1 ∙ sym k.1) (h.2 ∙ sym k.2) (h.3 ∙ sym k.3);
      error = λ d e h k. h.0 ∙ sym k.0;
      apart = λ count r e h k. k.1 h.0;
    }
date_times (plain.StartAndEnd start end) =
    record {
      value = λ count a b h k. same_pairs a b (h.1 ∙ sym k.1) (h.2 ∙ sym k.2) (h.3 ∙ sym k.3);
      error = λ d e h k. ends_error-one start end d e h k;
      apart = λ count r e h k. ends_apart start end count r e h k;
    }
date_times (plain.PeriodAndEnd period end) =
    record { value = λ count a b h k. absurd h; error = λ d e h k. h ∙ sym k; apart = λ count r e h k. h }

pub pairs-one : (count : Option ℕ) (v : DateTimeInterval) (r s : ParseRepeatedPairsResult) → IsRepeatedPairsResult (count, v) r → IsRepeatedPairsResult (count, v) s → r ≡ s
pairs-one count v = result-one pairs.IsIntervalRepeated pairs.IsIntervalError repeated_pairs_or_error v (date_times v) count
