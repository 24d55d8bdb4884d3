use Rattle.std.proofs.Common.{◌+◌, ◌∙◌, true}
use Rattle.cal_iso.specs.IsoShape.{AfterHour, Tail, any_length}
use Rattle.cal_iso.proofs.MomentReads.{put_clock}
use Rattle.cal_iso.proofs.time.form.scan_clock.Goals as goal

pub returns-in_err-rest-clause-scans : goal.returns-in_err-rest-clause-scans
returns-in_err-rest-clause-scans c =
    rw c.from_residual-in_err-rest.ensures (λ k f. c.in_ok-hour.ensures.scans (AfterHour (Tail (k + any_length) true) f) ∙ c.in_err-rest.ensures.scans k f)

pub returns-clause-value : goal.returns-clause-value
returns-clause-value c = put_clock _ _ _ _ _ _ _ c.in_ok-hour.ensures.value c.in_ok-rest.ensures.value
