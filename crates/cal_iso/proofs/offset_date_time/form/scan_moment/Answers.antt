use Rattle.std.proofs.Common.{◌∙◌}
use Rattle.cal_text.specs.Shape.{End}
use Rattle.cal_iso.specs.IsoShape.{SpacedOffset}
use Rattle.cal_iso.proofs.offset_date_time.form.scan_moment.Goals as goal

pub returns-in_err-local-clause-scans : goal.returns-in_err-local-clause-scans
returns-in_err-local-clause-scans c = rw c.from_residual.ensures (λ k. c.in_err-local.ensures.scans k (SpacedOffset End))

pub returns-in_err-offset-clause-scans : goal.returns-in_err-offset-clause-scans
returns-in_err-offset-clause-scans c = rw c.from_residual-in_err-offset.ensures (λ k. c.in_ok-local.ensures.scans k (SpacedOffset End) ∙ c.in_err-offset.ensures.scans)
