use Rattle.std.proofs.Common.{ℕ, ◌<◌}
use Rattle.cal_c.specs.CheckedWorkdays.{IsNext}
use Rattle.cal_c.proofs.schedule.workdays.checking.are_holidays.Given as goal

abbrev pub invariant-loop-index : goal.invariant-loop-index
invariant-loop-index l = (k : ℕ) → k < l.index → IsNext l.holidays k
