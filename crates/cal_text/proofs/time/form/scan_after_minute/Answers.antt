use Rattle.std.proofs.Common.{◌∙◌}
use Rattle.cal_text.specs.Shape.{Digits, Fraction}
use Rattle.cal_text.proofs.TimeShapes.{no_second, put_second}
use Rattle.cal_text.proofs.time.form.scan_after_minute.Goals as goal

pub returns-in_ok-nanosecond-in-Some-clause-value : goal.returns-in_ok-nanosecond-in-Some-clause-value
returns-in_ok-nanosecond-in-Some-clause-value c = put_second _ _ _ _ _ _ c.in-Some.ensures.value c.in_ok-second-in-Some.ensures.value c.in_ok-nanosecond-in-Some.ensures.value

pub returns-in-None-clause-value : goal.returns-in-None-clause-value
returns-in-None-clause-value c = no_second _ _ c.in-None.ensures.unchanged

pub returns-in_err-nanosecond-in-Some-clause-scans : goal.returns-in_err-nanosecond-in-Some-clause-scans
returns-in_err-nanosecond-in-Some-clause-scans c =
    rw c.from_residual-in_err-nanosecond-in-Some.ensures
    (λ f. c.in-Some.ensures.branches (Digits 2 (Fraction 8 f)) f ∙ c.in_ok-second-in-Some.ensures.scans (Fraction 8 f) ∙ c.in_err-nanosecond-in-Some.ensures.scans f)
