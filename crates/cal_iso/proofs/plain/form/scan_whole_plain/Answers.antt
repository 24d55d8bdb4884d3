use Rattle.std.proofs.Common.{◌+◌, ◌∙◌}
use Rattle.cal_text.specs.Shape.{End}
use Rattle.cal_iso.specs.IsoShape.{OrMidnight, any_length}
use Rattle.cal_iso.proofs.plain.form.scan_whole_plain.Goals as goal

pub returns-in_err-date-clause-scans : goal.returns-in_err-date-clause-scans
returns-in_err-date-clause-scans c = rw c.from_residual.ensures (λ k. c.in_err-date.ensures.scans (OrMidnight (k + any_length) End))

pub returns-in_err-time-clause-scans : goal.returns-in_err-time-clause-scans
returns-in_err-time-clause-scans c =
    rw c.from_residual-in_err-time.ensures (λ k. c.in_ok-date.ensures.scans (OrMidnight (k + any_length) End) ∙ c.in_err-time.ensures.scans k)
