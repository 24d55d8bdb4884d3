use Rattle.std.proofs.Common.{◌≡◌, filter, length}
use Rattle.std.specs.Prelude.{nat_le}
use Rattle.cal_recurrence.specs.Cursors.{days_left}
use Rattle.cal_recurrence.proofs.day_cursor.DayCursor.skip_to.Given as goal

abbrev pub invariant-loop-day : goal.invariant-loop-day
invariant-loop-day l = filter (nat_le l.fn.date) (days_left l.rule l.self) ≡ filter (nat_le l.fn.date) (days_left l.rule l.initial.self)

abbrev pub decreases-loop-day : goal.decreases-loop-day
decreases-loop-day l = l.self.left
