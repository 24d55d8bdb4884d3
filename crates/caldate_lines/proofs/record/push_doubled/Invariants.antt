use Rattle.std.proofs.Common.{◌≡◌, ◌+◌, ◌*◌, ◌≤◌, ◌++◌, length}
use Rattle.caldate_lines.specs.Fields.{doubled}
use Rattle.caldate_lines.proofs.record.push_doubled.Given as goal

-- the bytes of the rest are missing, and have room
abbrev pub invariant-loop-rest : goal.invariant-loop-rest
invariant-loop-rest l =
    (l.buffer ++ doubled l.rest ≡ l.initial.buffer ++ doubled l.words) × (length l.buffer + length l.rest * 2 ≤ length l.initial.buffer + length l.words * 2)

abbrev pub decreases-loop-rest : goal.decreases-loop-rest
decreases-loop-rest l = length l.rest
