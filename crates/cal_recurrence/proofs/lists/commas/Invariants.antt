use Rattle.std.proofs.Common.{◌≡◌, ◌≤◌, eqb, take, count_by}
use Rattle.cal_recurrence.proofs.lists.commas.Given as goal

abbrev pub invariant-loop-byte : goal.invariant-loop-byte
invariant-loop-byte l = (l.commas ≡ count_by (λ b. eqb b 44) (take l.byte-index l.value)) × (l.commas ≤ l.byte-index)
