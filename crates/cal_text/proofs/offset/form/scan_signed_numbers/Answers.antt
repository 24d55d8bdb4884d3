use Rattle.cal_text.proofs.OffsetShapes.{put_signed}
use Rattle.cal_text.proofs.offset.form.scan_signed_numbers.Goals as goal

pub returns-clause-value : goal.returns-clause-value
returns-clause-value c =
    put_signed _ _ _ _ _ _ _ _ _ c.in_ok-is_negative.ensures.value c.in_ok-hours.ensures.value c.in_ok-byte.ensures.value c.in_ok-minutes.ensures.value c.in_ok-seconds.ensures.value
