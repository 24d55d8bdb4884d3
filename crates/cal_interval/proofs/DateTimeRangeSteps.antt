-- The range of a start and a period, or of a period and an end, of local date-times.
use Rattle.std.proofs.Common.{◌≡◌, ℤ, Result, Err, Some, None, ap, refl, sym, ◌∙◌}
use Rattle.std.specs.Prelude.{IfSome, Option}
use Rattle.std.proofs.lemmas.Option.{none-some, same_Some}
use Rattle.cal_datetime.specs.DateTime.{IsDateTime}
use Rattle.cal_interval.specs.declared.error.IntervalError.{IntervalError}
use Rattle.cal_interval.specs.declared.error.IntervalError.TheVariants.{OutOfRange}
use Rattle.cal_interval.specs.DateTimeRanges.{LeadsTo, Range}

pub led : (Is : ℤ → Type 0) (make : ℤ → Result Range IntervalError) (z : ℤ) → ((y : ℤ) → IsDateTime y → Is y → Some z ≡ Some y) → IsDateTime z × Is z → LeadsTo Is make (make z)
led Is make z every value = record {
  value = λ y range is. ap make (same_Some z y (every y range is));
  none = λ none. absurd (none z value.0 value.1);
}

pub missed : (Is : ℤ → Type 0) (make : ℤ → Result Range IntervalError) → ((y : ℤ) → IsDateTime y → Is y → None ≡ Some y) → LeadsTo Is make (Err OutOfRange)
missed Is make every = record {
  value = λ y range is. absurd (none-some y (every y range is));
  none = λ none. refl;
}

-- one range
pub same_range : (Is : ℤ → Type 0) (make : ℤ → Result Range IntervalError) (r : Option ℤ) (a b : Result Range IntervalError) → ((y : ℤ) → IsDateTime y → Is y → r ≡ Some y)
    → IfSome r (λ y. IsDateTime y × Is y) → LeadsTo Is make a → LeadsTo Is make b → a ≡ b
same_range Is make (Some z) a b every value p q = p.value z value.0 value.1 ∙ sym (q.value z value.0 value.1)
same_range Is make None a b every value p q =
    p.none (λ y range is. none-some y (every y range is)) ∙ sym (q.none (λ y range is. none-some y (every y range is)))
