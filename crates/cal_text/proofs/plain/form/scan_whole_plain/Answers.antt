use Rattle.cal_text.specs.PlainForm.{HasPlainForm}
use Rattle.cal_text.specs.Shape.{End}
use Rattle.cal_text.proofs.Parts.{put_whole}
use Rattle.cal_text.proofs.plain.form.scan_whole_plain.Goals as goal

pub returns-clause-value : goal.returns-clause-value
returns-clause-value c = put_whole HasPlainForm _ _ _ c.in_ok-numbers.ensures.value c.in_ok-end.ensures.value

pub returns-in_err-numbers-clause-scans : goal.returns-in_err-numbers-clause-scans
returns-in_err-numbers-clause-scans c = rw c.from_residual.ensures (c.in_err-numbers.ensures.scans End)
