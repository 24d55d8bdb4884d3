use Rattle.cal_text.specs.Shape.{End}
use Rattle.cal_iso.proofs.date.form.scan_whole_date.Goals as goal

pub returns-in_err-numbers-clause-scans : goal.returns-in_err-numbers-clause-scans
returns-in_err-numbers-clause-scans c = rw c.from_residual.ensures (c.in_err-numbers.ensures.scans End)
