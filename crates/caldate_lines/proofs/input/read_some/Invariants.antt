use Rattle.std.proofs.Common.{ℕ, Result}
use Rattle.std.specs.Io.KnownBytes.{Keeps}
use Rattle.std.specs.declared.io.Error.{Error}
use Rattle.caldate_lines.specs.Calls.{Gives, most_retries}
use Rattle.caldate_lines.proofs.input.read_some.Given as goal

-- an interrupted read gave nothing, and the next read completes the first one
abbrev pub invariant-loop-count : goal.invariant-loop-count
invariant-loop-count g l =
    Keeps (g.R.Source.remaining l.initial.reader) (g.R.Source.remaining l.reader)
    × ((outcome : Result ℕ Error) (end : _) → Gives g.R.Source.read_gives l.retries l.reader outcome end
    → Gives g.R.Source.read_gives most_retries l.initial.reader outcome end)

abbrev pub decreases-loop-count : goal.decreases-loop-count
decreases-loop-count g l = l.retries
