use Rattle.std.proofs.Common.{◌≡◌, ◌++◌, ℕ, List, length}
use Rattle.caldate_lines.specs.RunStates.{quoting_of}
use Rattle.caldate_run.specs.Runs.{Advances}
use Rattle.caldate_run.proofs.run.answer_lines.Given as goal

-- the rest is the end of the bytes, the lines before it are answered, and the quotes are those of
-- the progress
abbrev pub invariant-loop-line : goal.invariant-loop-line
invariant-loop-line g l =
    ((front : List ℕ) × (l.bytes ≡ front ++ l.rest))
    × Advances g.W.Sink.contents g.W.Sink.write_gives l.filter l.initial.output l.output l.initial.writer l.writer l.bytes l.rest l.initial.progress l.progress
    × (l.quoting ≡ quoting_of l.progress)

abbrev pub decreases-loop-line : goal.decreases-loop-line
decreases-loop-line g l = length l.rest
