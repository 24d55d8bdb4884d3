use Rattle.std.proofs.Common.{◌∙◌, length, arith}
use Rattle.cal_text.specs.Shape.{time_offset}
use Rattle.cal_text.proofs.MomentShapes.{same_fraction}
use Rattle.cal_text.proofs.rfc3339.form.scan_fraction_and_offset.Goals as goal

pub returns-in_err-nanosecond-clause-scans : goal.returns-in_err-nanosecond-clause-scans
returns-in_err-nanosecond-clause-scans c =
    rw c.from_residual.ensures (λ more few. same_fraction more (length c.args.scanner.now.rest.now) time_offset c.args.scanner.now.rest.now few (omega arith) ∙ c.in_err-nanosecond.ensures.scans time_offset)

pub returns-in_err-offset-clause-scans : goal.returns-in_err-offset-clause-scans
returns-in_err-offset-clause-scans c =
    rw c.from_residual-in_err-offset.ensures
    (λ more few. same_fraction more (length c.args.scanner.now.rest.now) time_offset c.args.scanner.now.rest.now few (omega arith) ∙ c.in_ok-nanosecond.ensures.scans time_offset ∙ c.in_err-offset.ensures.scans)

pub returns-clause-scans : goal.returns-clause-scans
returns-clause-scans c =
    λ more few. same_fraction more (length c.args.scanner.now.rest.now) time_offset c.args.scanner.now.rest.now few (omega arith) ∙ c.in_ok-nanosecond.ensures.scans time_offset ∙ c.in_ok-offset.ensures.scans

pub returns-clause-value : goal.returns-clause-value
returns-clause-value c = (c.scan_fraction.new.scanner.rest.now, c.in_ok-nanosecond.ensures.value, c.in_ok-offset.ensures.value)
