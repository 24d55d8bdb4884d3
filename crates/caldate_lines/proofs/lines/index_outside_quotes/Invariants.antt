use Rattle.caldate_lines.proofs.Quotes.{Goes}
use Rattle.caldate_lines.proofs.lines.index_outside_quotes.Given as goal

-- no part ended so far
abbrev pub invariant-loop-i : goal.invariant-loop-i
invariant-loop-i l = Goes l.end l.separator l.fn.start l.fn.quoting l.bytes l.i l.state
