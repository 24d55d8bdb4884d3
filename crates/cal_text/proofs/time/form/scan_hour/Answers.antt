use Rattle.cal_text.proofs.TimeShapes.{put_digit, put_digits}
use Rattle.cal_text.proofs.time.form.scan_hour.Goals as goal

pub returns-in-Some-clause-value : goal.returns-in-Some-clause-value
returns-in-Some-clause-value c = put_digits _ _ _ _ _ c.in_ok-first.ensures.value c.in-Some.ensures.value

pub returns-in-None-clause-value : goal.returns-in-None-clause-value
returns-in-None-clause-value c = put_digit _ _ _ _ c.in_ok-first.ensures.value c.in-None.ensures.unchanged
