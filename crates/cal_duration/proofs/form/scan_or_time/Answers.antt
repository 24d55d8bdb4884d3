use Rattle.cal_duration.proofs.FormReads.{time_after}
use Rattle.cal_duration.proofs.form.scan_or_time.Goals as goal

pub returns-in_ok-time-in-Some-clause-value : goal.returns-in_ok-time-in-Some-clause-value
returns-in_ok-time-in-Some-clause-value c = time_after _ _ _ _ c.in-Some.ensures.value c.in_ok-time-in-Some.ensures.value
