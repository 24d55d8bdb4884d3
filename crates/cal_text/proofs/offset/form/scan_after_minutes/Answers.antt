use Rattle.cal_text.proofs.OffsetShapes.{put_seconds}
use Rattle.cal_text.proofs.offset.form.scan_after_minutes.Goals as goal

pub returns-in_ok-end-in-Some-clause-value : goal.returns-in_ok-end-in-Some-clause-value
returns-in_ok-end-in-Some-clause-value c = put_seconds _ _ _ _ c.in-Some.ensures.value c.in_ok-seconds-in-Some.ensures.value c.in_ok-end-in-Some.ensures.value
