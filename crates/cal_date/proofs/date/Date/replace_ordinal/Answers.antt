use Rattle.cal_date.proofs.Replacements.{year_kept, cause_left, other_reason}
use Rattle.cal_date.proofs.date.Date.replace_ordinal.Goals as goal

pub returns-clause-value : goal.returns-clause-value
returns-clause-value c =
    let kept = year_kept _ _ c.year.ensures.in_range c.year.ensures.value in
    record {
      every = rw kept.same at c.from_ordinal_date.ensures.every;
      value = rw kept.same at c.from_ordinal_date.ensures.value;
      error = rw kept.same at c.from_ordinal_date.ensures.error;
    }

pub returns-clause-error : goal.returns-clause-error
returns-clause-error c =
    let kept = year_kept _ _ c.year.ensures.in_range c.year.ensures.value in
    let year = rw kept.same at c.from_ordinal_date.ensures.year in
    record {
      error_kind = other_reason _ _ _ c.from_ordinal_date.ensures.error_kind (λ e. year.0 e kept.year);
      ordinal = cause_left kept.year (rw kept.same at c.from_ordinal_date.ensures.ordinal);
    }
