use Rattle.std.proofs.Common.{◌≡◌, ◌<◌, ◌≤◌, ◌-◌, ℕ, get_or, length}
use Rattle.caldate_lines.proofs.lines.index_of.Given as goal

-- no such byte came so far
abbrev pub invariant-loop-i : goal.invariant-loop-i
invariant-loop-i l = (l.i ≤ length l.bytes) × ((k : ℕ) → k < l.i → get_or l.bytes k 0 ≡ l.byte → ⊥)

abbrev pub decreases-loop-i : goal.decreases-loop-i
decreases-loop-i l = length l.bytes - l.i
