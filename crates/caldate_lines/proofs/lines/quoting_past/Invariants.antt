use Rattle.std.proofs.Common.{◌≡◌, length}
use Rattle.caldate_lines.specs.Fields.{quoting_past}
use Rattle.caldate_lines.proofs.lines.quoting_past.Given as goal

-- the rest leads from the state to that after all of the bytes
abbrev pub invariant-loop-rest : goal.invariant-loop-rest
invariant-loop-rest l = quoting_past l.separator l.state l.rest ≡ quoting_past l.separator l.fn.quoting l.bytes

abbrev pub decreases-loop-rest : goal.decreases-loop-rest
decreases-loop-rest l = length l.rest
