use Rattle.std.proofs.Common.{◌++◌, length, false}
use Rattle.caltool.specs.Calls.{Writes, most_retries}
use Rattle.caltool.proofs.Known.{HasTaken}
use Rattle.caltool.specs.Answers.{out}
use Rattle.caltool.proofs.run.write_answers.Given as goal

-- The bytes still to be written are the buffer, then the answers to the rest, and no write failed.
abbrev pub invariant-loop-line : goal.invariant-loop-line
invariant-loop-line g l =
    HasTaken (g.W.Sink.contents l.initial.writer) (g.W.Sink.contents l.writer) (out l.input) (l.buffer ++ out l.rest)
    × Writes g.W.Sink.write_gives most_retries l.initial.writer false l.retries l.writer

abbrev pub decreases-loop-line : goal.decreases-loop-line
decreases-loop-line g l = length l.rest
