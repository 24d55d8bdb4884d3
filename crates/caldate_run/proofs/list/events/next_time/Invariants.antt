use Rattle.std.proofs.Common.{length}
use Rattle.cal_recurrence.specs.Words.{parts_left}
use Rattle.caldate_run.specs.Events.{bound}
use Rattle.caldate_run.proofs.EventTimes.{IsEarliest}
use Rattle.caldate_run.proofs.list.events.next_time.Given as goal

abbrev pub invariant-loop-rest : goal.invariant-loop-rest
invariant-loop-rest l = IsEarliest l.events (bound l.after l.moment) (parts_left 10 l.rest) l.next

abbrev pub decreases-loop-rest : goal.decreases-loop-rest
decreases-loop-rest l = length (parts_left 10 l.rest)
