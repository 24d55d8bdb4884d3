use Rattle.cal_duration.proofs.FormReads.{body_of_date, body_of_time}
use Rattle.cal_duration.proofs.form.scan_body.Goals as goal

pub returns-in_ok-time-in-Some-clause-value : goal.returns-in_ok-time-in-Some-clause-value
returns-in_ok-time-in-Some-clause-value c = body_of_time _ _ _ _ c.in-Some.ensures.value c.in_ok-time-in-Some.ensures.value

pub returns-in-None-clause-scans : goal.returns-in-None-clause-scans
returns-in-None-clause-scans c = body_of_date _ _ _ _ c.in-None.ensures.branches c.in-None.ensures.unchanged c.scan_date.ensures.scans
