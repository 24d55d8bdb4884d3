use Rattle.std.proofs.Common.{◌≡◌, ℕ, List, ◌++◌, length}
use Rattle.caldate_lines.specs.Outputs.{Outputs}
use Rattle.caldate_run.specs.Recurring.{lines_left}
use Rattle.caldate_run.proofs.list.recurring.write_lines.Given as goal

-- the first lines were given, and the others are left
abbrev pub invariant-loop-text : goal.invariant-loop-text
invariant-loop-text g l =
    (given : List ℕ) × Outputs g.W.Sink.contents g.W.Sink.write_gives given l.initial.writer l.output l.writer × (lines_left l.initial.rest ≡ given ++ lines_left l.rest)

abbrev pub decreases-loop-text : goal.decreases-loop-text
decreases-loop-text g l = length (lines_left l.rest)
