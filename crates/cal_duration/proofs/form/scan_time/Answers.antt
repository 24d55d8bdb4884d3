use Rattle.cal_duration.proofs.FormReads.{time_with_seconds, time_without_seconds}
use Rattle.cal_duration.proofs.form.scan_time.Goals as goal

pub returns-in_ok-nanoseconds-in-Some-clause-value : goal.returns-in_ok-nanoseconds-in-Some-clause-value
returns-in_ok-nanoseconds-in-Some-clause-value c =
    time_with_seconds _ _ _ _ _ _ _ _ _ c.in_ok-first.ensures.value c.in-Some.ensures.value c.in_ok-nanoseconds-in-Some.ensures.value c.new.ensures.parts c.new.ensures.seconds c.new.ensures.nanoseconds

pub returns-in-None-clause-value : goal.returns-in-None-clause-value
returns-in-None-clause-value c =
    time_without_seconds _ _ _ _ _ _ c.in_ok-first.ensures.value c.in-None.ensures.value c.in-None.ensures.shorter c.new-in-None.ensures.parts c.new-in-None.ensures.seconds c.new-in-None.ensures.nanoseconds
