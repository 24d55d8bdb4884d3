use Rattle.std.proofs.Common.{◌∙◌}
use Rattle.cal_text.specs.Shape.{spaced_offset}
use Rattle.cal_text.proofs.OffsetDateTimeShapes.{put_moment}
use Rattle.cal_text.proofs.offset_date_time.form.scan_offset_date_time.Goals as goal

pub returns-clause-value : goal.returns-clause-value
returns-clause-value c = put_moment _ _ _ _ c.in_ok-local.ensures.value c.in_ok-offset.ensures.value

pub returns-in_err-local-clause-scans : goal.returns-in_err-local-clause-scans
returns-in_err-local-clause-scans c = rw c.from_residual.ensures (c.in_err-local.ensures.scans spaced_offset)

pub returns-in_err-offset-clause-scans : goal.returns-in_err-offset-clause-scans
returns-in_err-offset-clause-scans c = rw c.from_residual-in_err-offset.ensures (c.in_ok-local.ensures.scans spaced_offset ∙ c.in_err-offset.ensures.scans)

pub returns-clause-scans : goal.returns-clause-scans
returns-clause-scans c = c.in_ok-local.ensures.scans spaced_offset ∙ c.in_ok-offset.ensures.scans
