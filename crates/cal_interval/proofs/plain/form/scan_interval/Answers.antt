use Rattle.std.proofs.Common.{◌∙◌, ap, arith, length}
use Rattle.cal_text.specs.Shape.{Byte, Plain, End}
use Rattle.cal_interval.specs.IntervalShape.{PeriodOrEnd}
use Rattle.cal_interval.proofs.plain.form.scan_interval.Goals as goal

pub returns-in_err-end-in-Some-clause-scans : goal.returns-in_err-end-in-Some-clause-scans
returns-in_err-end-in-Some-clause-scans c =
    rw c.from_residual-in_err-end-in-Some.ensures
    (λ more few. c.in-Some.ensures.branches _ _ ∙ c.in_ok-period-in-Some.ensures.scans more (omega (arith, few, ap length c.in-Some.ensures.value)) (Byte 47 (Plain End))
    ∙ c.in_ok-byte-in-Some.ensures.scans (Plain End) ∙ c.in_err-end-in-Some.ensures.scans End)

pub returns-in_err-start-in-None-clause-scans : goal.returns-in_err-start-in-None-clause-scans
returns-in_err-start-in-None-clause-scans c =
    rw c.from_residual-in_err-start-in-None.ensures (λ more few. c.in-None.ensures.branches _ _ ∙ c.in_err-start-in-None.ensures.scans (Byte 47 (PeriodOrEnd Plain more End)))

pub returns-in_err-byte-in-None-clause-scans : goal.returns-in_err-byte-in-None-clause-scans
returns-in_err-byte-in-None-clause-scans c =
    rw c.from_residual-in_err-byte-in-None.ensures
    (λ more few. c.in-None.ensures.branches _ _ ∙ c.in_ok-start-in-None.ensures.scans (Byte 47 (PeriodOrEnd Plain more End)) ∙ c.in_err-byte-in-None.ensures.scans (PeriodOrEnd Plain more End))
