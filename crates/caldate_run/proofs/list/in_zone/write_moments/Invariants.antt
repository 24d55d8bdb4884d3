use Rattle.std.proofs.Common.{◌≡◌, ℕ, List, ℤ, pos}
use Rattle.std.specs.Prelude.{◌-ℤ◌}
use Rattle.cal_datetime.specs.OffsetDateTime.{instant}
use Rattle.cal_recurrence.specs.Occurrences.{nanoseconds_left}
use Rattle.cal_recurrence.specs.ZonedSet.{IsNextAfter, Occurs}
use Rattle.caldate_lines.specs.Outputs.{Outputs}
use Rattle.caldate_run.specs.Recurring.{AreListedIn, moment_line}
use Rattle.caldate_run.proofs.Listed.{Follows}
use Rattle.caldate_run.proofs.list.in_zone.write_moments.Given as goal

-- the lines of the first moments were given, the next one comes after them, and the set is the same
abbrev pub invariant-loop-moment : goal.invariant-loop-moment
invariant-loop-moment g l =
    ((given : List ℕ) × (x : ℤ) × Outputs g.W.Sink.contents g.W.Sink.write_gives given l.initial.writer l.output l.writer × IsNextAfter (Occurs l.fn.set) x l.next
    × Follows moment_line (AreListedIn l.fn.set l.last) (instant l.fn.first -ℤ pos 1) x given) × (l.set ≡ l.fn.set)

abbrev pub decreases-loop-moment : goal.decreases-loop-moment
decreases-loop-moment g l = nanoseconds_left l.next
