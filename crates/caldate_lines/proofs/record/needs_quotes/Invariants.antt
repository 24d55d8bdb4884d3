use Rattle.std.proofs.Common.{◌≡◌, length}
use Rattle.caldate_lines.specs.Fields.{needs_quotes}
use Rattle.caldate_lines.proofs.record.needs_quotes.Given as goal

-- the bytes before the rest need no quotes
abbrev pub invariant-loop-rest : goal.invariant-loop-rest
invariant-loop-rest l = needs_quotes l.separator l.words ≡ needs_quotes l.separator l.rest

abbrev pub decreases-loop-rest : goal.decreases-loop-rest
decreases-loop-rest l = length l.rest
