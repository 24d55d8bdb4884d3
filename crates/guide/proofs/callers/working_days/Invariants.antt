use Rattle.std.proofs.Common.{◌≤◌, length}
use Rattle.guide.proofs.callers.working_days.Given as goal

abbrev pub invariant-loop-date : goal.invariant-loop-date
invariant-loop-date l = l.count ≤ length l.yielded
