use Rattle.std.proofs.Common.{◌≤◌}
use Rattle.caldate_args.proofs.args.arguments.join.Given as goal

-- the filled bytes lie within the buffer, and the options within these
abbrev pub invariant-loop-i : goal.invariant-loop-i
invariant-loop-i g l = (l.filled ≤ 4097) × (l.options ≤ l.filled)
