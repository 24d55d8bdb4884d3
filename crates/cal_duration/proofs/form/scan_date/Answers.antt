use Rattle.cal_duration.proofs.FormReads.{body_with_days, body_without_days}
use Rattle.cal_duration.proofs.form.scan_date.Goals as goal

pub returns-in_ok-time-in-Some-clause-value : goal.returns-in_ok-time-in-Some-clause-value
returns-in_ok-time-in-Some-clause-value c =
    body_with_days _ _ _ _ _ _ _ _ _ _ c.in_ok-first.ensures.value c.in-Some.ensures.value c.in_ok-byte-in-Some.ensures.value c.in_ok-time-in-Some.ensures.value c.new.ensures.parts c.new.ensures.days

pub returns-in_ok-time-in-None-clause-value : goal.returns-in_ok-time-in-None-clause-value
returns-in_ok-time-in-None-clause-value c =
    body_without_days _ _ _ _ _ _ _ _ c.in_ok-first.ensures.value c.in-None.ensures.value c.in-None.ensures.shorter c.in_ok-time-in-None.ensures.value c.new-in-None.ensures.parts c.new-in-None.ensures.days
