use Rattle.std.proofs.Common.{ℕ, ◌-◌, ◌≤◌, List, None}
use Rattle.caldate_lines.specs.Outputs.{Outputs}
use Rattle.caldate_run.specs.Recurring.{moment_line}
use Rattle.caldate_run.proofs.Listed.{Follows}
use Rattle.caldate_run.proofs.MomentSteps.{AreStepsFrom}
use Rattle.caldate_run.proofs.list.moments.list_moments.Given as goal

-- the lines of the first steps were given, and the next step has the next count
abbrev pub invariant-loop-moment : goal.invariant-loop-moment
invariant-loop-moment g l =
    ((given : List ℕ) × Outputs g.W.Sink.contents g.W.Sink.write_gives given l.initial.writer l.output l.writer
    × Follows moment_line (AreStepsFrom l.moments) (None, 0) (l.before, l.count) given)
    × (l.count ≤ 60000000000)

abbrev pub decreases-loop-moment : goal.decreases-loop-moment
decreases-loop-moment g l = 60000000000 - l.count
