use Rattle.std.proofs.Common.{ℕ, List, ℤ, pos}
use Rattle.std.specs.Prelude.{◌-ℤ◌}
use Rattle.cal_datetime.specs.OffsetDateTime.{instant}
use Rattle.cal_recurrence.specs.Occurrences.{nanoseconds_left}
use Rattle.caldate_lines.specs.Outputs.{Outputs}
use Rattle.caldate_run.specs.Events.{time_line, AreTimes, HasTimeAt, IsNextTime}
use Rattle.caldate_run.proofs.Listed.{Follows}
use Rattle.caldate_run.proofs.list.events.list_events.Given as goal

-- The lines of the first times were given, and the next one comes after them.
abbrev pub invariant-loop-moment : goal.invariant-loop-moment
invariant-loop-moment g l =
    (given : List ℕ) × (x : ℤ) × Outputs g.W.Sink.contents g.W.Sink.write_gives given l.initial.writer l.output l.writer × IsNextTime (HasTimeAt l.events) x l.next
    × Follows (time_line l.events) (AreTimes l.events) (instant l.events.first -ℤ pos 1) x given

abbrev pub decreases-loop-moment : goal.decreases-loop-moment
decreases-loop-moment g l = nanoseconds_left l.next
