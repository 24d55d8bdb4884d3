use Rattle.std.proofs.Common.{◌+◌, ◌∙◌}
use Rattle.cal_text.specs.Shape.{Separator}
use Rattle.cal_iso.specs.IsoShape.{Clock, any_length}
use Rattle.cal_iso.proofs.MomentReads.{put_date_time}
use Rattle.cal_iso.proofs.plain.form.scan_date_time.Goals as goal

pub returns-clause-value : goal.returns-clause-value
returns-clause-value c =
    let separator = c.in_ok-scan_separator.ensures.value in
    put_date_time _ _ _ _ _ _ _ c.in_ok-date.ensures.value separator.1 separator.2 c.in_ok-time.ensures.value

pub returns-in_err-date-clause-scans : goal.returns-in_err-date-clause-scans
returns-in_err-date-clause-scans c = rw c.from_residual.ensures (λ k f. c.in_err-date.ensures.scans (Separator (Clock (k + any_length) f)))

pub returns-in_err-scan_separator-clause-scans : goal.returns-in_err-scan_separator-clause-scans
returns-in_err-scan_separator-clause-scans c =
    rw c.from_residual-in_err-scan_separator.ensures
    (λ k f. c.in_ok-date.ensures.scans (Separator (Clock (k + any_length) f)) ∙ c.in_err-scan_separator.ensures.scans (Clock (k + any_length) f))

pub returns-in_err-time-clause-scans : goal.returns-in_err-time-clause-scans
returns-in_err-time-clause-scans c =
    rw c.from_residual-in_err-time.ensures
    (λ k f. c.in_ok-date.ensures.scans (Separator (Clock (k + any_length) f)) ∙ c.in_ok-scan_separator.ensures.scans (Clock (k + any_length) f) ∙ c.in_err-time.ensures.scans k f)
