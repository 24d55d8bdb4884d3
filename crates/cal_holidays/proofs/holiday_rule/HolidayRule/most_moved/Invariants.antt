use Rattle.std.proofs.Common.{ℕ, ◌<◌, ◌≤◌, pos}
use Rattle.std.specs.Prelude.{slice_index_or, unsigned_abs}
use Rattle.cal_holidays.proofs.holiday_rule.HolidayRule.most_moved.Given as goal

abbrev pub invariant-loop-days : goal.invariant-loop-days
invariant-loop-days l = (i : ℕ) → i < l.days-index → unsigned_abs (slice_index_or l.days-items i (pos 0)) ≤ l.most
