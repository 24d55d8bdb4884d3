use Rattle.std.proofs.Common.{◌∙◌}
use Rattle.cal_text.specs.Shape.{End, Fraction}
use Rattle.cal_text.proofs.UnixShapes.{put_from_one}
use Rattle.cal_text.proofs.unix.parsing.scan_seconds_from_1.Goals as goal

pub returns-clause-value : goal.returns-clause-value
returns-clause-value c = put_from_one _ _ _ _ _ c.in_ok-seconds.ensures.value c.in_ok-nanosecond.ensures.value c.in_ok-end.ensures.value

pub returns-in_err-seconds-clause-scans : goal.returns-in_err-seconds-clause-scans
returns-in_err-seconds-clause-scans c = rw c.from_residual.ensures (c.in_err-seconds.ensures.scans (Fraction 8 End))

pub returns-in_err-nanosecond-clause-scans : goal.returns-in_err-nanosecond-clause-scans
returns-in_err-nanosecond-clause-scans c =
    rw c.from_residual-in_err-nanosecond.ensures (c.in_ok-seconds.ensures.scans (Fraction 8 End) ∙ c.in_err-nanosecond.ensures.scans End)
