use Rattle.cal_duration.proofs.DigitReads.{first_digit, next_digit, number_done, optional_done}
use Rattle.cal_duration.proofs.digits.scan_number.Goals as goal

pub returns-in_err-digit-clause-optional : goal.returns-in_err-digit-clause-optional
returns-in_err-digit-clause-optional c = rw c.from_residual.ensures (λ more few f g. c.in_err-digit.ensures.branches _ g)

pub loop-digit-init : goal.loop-digit-init
loop-digit-init c = rw c.from-number.ensures (first_digit _ _ _ c.in_ok-digit.ensures.value)

pub loop-digit-preserved : goal.loop-digit-preserved
loop-digit-preserved c = rw (c.saturating_add-number.ensures, c.saturating_mul.ensures, c.from.ensures) (next_digit _ _ _ _ _ c.loop-digit.invariant c.in-Some.ensures.value)

pub returns-clause-scans : goal.returns-clause-scans
returns-clause-scans c more few f =
    number_done _ more f _ _ _ few c.loop-digit.invariant (record { branches = c.in_default.ensures.branches; unchanged = c.in_default.ensures.unchanged })

pub returns-clause-optional : goal.returns-clause-optional
returns-clause-optional c more few f g =
    optional_done _ more f g _ _ _ few c.loop-digit.invariant (record { branches = c.in_default.ensures.branches; unchanged = c.in_default.ensures.unchanged })
