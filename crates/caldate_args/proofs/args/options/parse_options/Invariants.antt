use Rattle.std.proofs.Common.{◌+◌, ◌^◌, ◌≤◌}
use Rattle.caldate_args.specs.Words.{bytes_left}
use Rattle.caldate_args.proofs.args.options.parse_options.Given as goal

-- the index is at most the bytes so far
abbrev pub invariant-loop-left : goal.invariant-loop-left
invariant-loop-left g l = l.index + bytes_left l.left ≤ 2 ^ 63 + 2

abbrev pub decreases-loop-left : goal.decreases-loop-left
decreases-loop-left g l = bytes_left l.left
