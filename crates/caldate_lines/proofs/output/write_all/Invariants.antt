use Rattle.std.proofs.Common.{◌+◌, length, Option}
use Rattle.std.specs.declared.io.ErrorKind.{ErrorKind}
use Rattle.caldate_lines.specs.Calls.{Sends, most_retries}
use Rattle.caldate_lines.proofs.Known.{HasSent}
use Rattle.caldate_lines.proofs.output.write_all.Given as goal

-- the bytes except the rest are taken, and the writes of the rest complete the writes of all
abbrev pub invariant-loop-rest : goal.invariant-loop-rest
invariant-loop-rest g l =
    HasSent (g.W.Sink.contents l.initial.writer) (g.W.Sink.contents l.writer) l.bytes l.rest
    × ((outcome : Option ErrorKind) (end : _) → Sends g.W.Sink.write_gives l.retries l.writer l.rest outcome end
    → Sends g.W.Sink.write_gives most_retries l.initial.writer l.bytes outcome end)

abbrev pub decreases-loop-rest : goal.decreases-loop-rest
decreases-loop-rest g l = length l.rest + l.retries
