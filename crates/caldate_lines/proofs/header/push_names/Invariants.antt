use Rattle.std.proofs.Common.{◌+◌, ◌*◌, ◌≤◌, length}
use Rattle.caldate_lines.proofs.header.push_names.Given as goal

-- the names of the rest have room
abbrev pub invariant-loop-part : goal.invariant-loop-part
invariant-loop-part l = (length l.words + 5 * length l.rest ≤ 20780) × (length l.rest ≤ length l.header)

abbrev pub decreases-loop-part : goal.decreases-loop-part
decreases-loop-part l = length l.rest
