use Rattle.std.proofs.Common.{◌∙◌}
use Rattle.cal_text.specs.Shape.{Byte, Digits, AfterMinute}
use Rattle.cal_text.proofs.TimeShapes.{put_time}
use Rattle.cal_text.proofs.time.form.scan_time.Goals as goal

pub returns-clause-value : goal.returns-clause-value
returns-clause-value c = put_time _ _ _ _ _ _ _ _ _ c.in_ok-hour.ensures.value c.in_ok-byte.ensures.value c.in_ok-minute.ensures.value c.in_ok-second.ensures.value

pub returns-in_err-second-clause-scans : goal.returns-in_err-second-clause-scans
returns-in_err-second-clause-scans c =
    rw c.from_residual-in_err-second.ensures
    (λ f. c.in_ok-hour.ensures.scans (Byte 58 (Digits 2 (AfterMinute f))) ∙ c.in_ok-byte.ensures.scans (Digits 2 (AfterMinute f)) ∙ c.in_ok-minute.ensures.scans (AfterMinute f) ∙ c.in_err-second.ensures.scans f)
