use Rattle.std.proofs.Common.{length, ◌≤◌}
use Rattle.cal_zone.proofs.guesses.Guesses.count.Given as goal

abbrev pub invariant-part : goal.invariant-part
invariant-part l = l.count ≤ length l.table
