use Rattle.std.proofs.Common.{◌∙◌}
use Rattle.cal_text.specs.Shape.{End}
use Rattle.cal_iso.proofs.time.form.scan_clock_to_end.Goals as goal

pub returns-in_err-time-clause-scans : goal.returns-in_err-time-clause-scans
returns-in_err-time-clause-scans c = rw c.from_residual.ensures (λ k. c.in_err-time.ensures.scans k End)

pub returns-in_err-end-clause-scans : goal.returns-in_err-end-clause-scans
returns-in_err-end-clause-scans c = rw c.from_residual-in_err-end.ensures (λ k. c.in_ok-time.ensures.scans k End ∙ c.in_err-end.ensures.scans)
