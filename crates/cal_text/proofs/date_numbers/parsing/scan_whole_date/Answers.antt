use Rattle.cal_text.specs.DateForms.{HasForm}
use Rattle.cal_text.specs.Shape.{End}
use Rattle.cal_text.proofs.Parts.{put_whole}
use Rattle.cal_text.proofs.date_numbers.parsing.scan_whole_date.Goals as goal

pub returns-clause-value : goal.returns-clause-value
returns-clause-value c = put_whole HasForm _ _ _ c.in_ok-form.ensures.value c.in_ok-end.ensures.value

pub returns-in_err-form-clause-scans : goal.returns-in_err-form-clause-scans
returns-in_err-form-clause-scans c = rw c.from_residual.ensures (c.in_err-form.ensures.scans End)
