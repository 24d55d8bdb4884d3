-- The range of a start and a period, or of a period and an end.
use Rattle.std.proofs.Common.{◌≡◌, ℕ, ℤ, Result, Ok, Err, ap, sym, ◌∙◌}
use Rattle.cal_schedule.specs.Period.{IsDateAfter}
use Rattle.cal_schedule.specs.Ranges.{Range}
use Rattle.cal_schedule.specs.declared.period_error.PeriodError.{PeriodError}
use Rattle.cal_schedule.proofs.Periods.{zero_or_not}
use Rattle.cal_text.proofs.Results.{one, not_ok}
use Rattle.cal_interval.specs.declared.error.IntervalError.{IntervalError}
use Rattle.cal_interval.specs.Ranges.{LeadsTo, error_of}

pub led : (n : ℕ) (months days exact : ℤ) (make : ℕ → Result Range IntervalError) (m : ℕ) → IsDateAfter n months days exact (Ok m) → LeadsTo n months days exact make (make m)
led n months days exact make m h = record {
  no_clock = λ x. absurd (not_ok _ _ (sym (h.no_clock x)));
  value = λ e k date later. ap make (one m k (h.value e k date later));
  none = λ e none. absurd (none m h.is.1 h.is.2);
}

same_error : (e f : PeriodError) → ◌≡◌ {A = Result ℕ PeriodError} (Err e) (Err f) → e ≡ f
same_error e f h = cc

pub missed : (n : ℕ) (months days exact : ℤ) (make : ℕ → Result Range IntervalError) (e : PeriodError) → IsDateAfter n months days exact (Err e) → LeadsTo n months days exact make (Err (error_of e))
missed n months days exact make e h = record {
  no_clock = λ x. ap (λ f. Err (error_of f)) (same_error e _ (h.no_clock x));
  value = λ z k date later. absurd (not_ok _ _ (h.value z k date later));
  none = λ z none. ap (λ f. Err (error_of f)) (same_error e _ (h.none z none));
}

-- one range
pub same_range : (n : ℕ) (months days exact : ℤ) (make : ℕ → Result Range IntervalError) (r : Result ℕ PeriodError) (a b : Result Range IntervalError) → IsDateAfter n months days exact r
    → LeadsTo n months days exact make a → LeadsTo n months days exact make b → a ≡ b
same_range n months days exact make (Ok m) a b h p q = p.value h.is.0 m h.is.1 h.is.2 ∙ sym (q.value h.is.0 m h.is.1 h.is.2)
same_range n months days exact make (Err e) a b h p q =
    zero_or_not exact (a ≡ b)
    (λ zero. p.none zero (λ m inside later. not_ok e m (h.value zero m inside later)) ∙ sym (q.none zero (λ m inside later. not_ok e m (h.value zero m inside later))))
    (λ other. p.no_clock other ∙ sym (q.no_clock other))
