use Rattle.std.proofs.Common.{◌∙◌}
use Rattle.cal_text.specs.Shape.{End}
use Rattle.cal_interval.proofs.plain.form.scan_period_or_end.Goals as goal

pub returns-in_err-end-in-None-clause-scans : goal.returns-in_err-end-in-None-clause-scans
returns-in_err-end-in-None-clause-scans c =
    rw c.from_residual-in_err-end-in-None.ensures (λ more few. c.in-None.ensures.branches _ _ ∙ c.in_err-end-in-None.ensures.scans End)
