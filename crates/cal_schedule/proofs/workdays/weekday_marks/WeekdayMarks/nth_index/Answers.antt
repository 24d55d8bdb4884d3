use Rattle.std.proofs.Common.{arith}
use Rattle.cal_schedule.specs.Ranks.{count-none}
use Rattle.cal_schedule.specs.Workdays.{is_marked}
use Rattle.cal_schedule.proofs.WorkdaysWeeks.{marked-here}
use Rattle.cal_schedule.proofs.workdays.weekday_marks.WeekdayMarks.nth_index.Goals as goal

pub loop-index-init : goal.loop-index-init
loop-index-init c = omega (arith, count-none (is_marked c.args.self.now))

pub returns-then-marked_in_week-n-clause-marked : goal.returns-then-marked_in_week-n-clause-marked
returns-then-marked_in_week-n-clause-marked c =
    (marked-here (is_marked c.args.self.now) c.args.n c.loop-index.index c.loop-index.invariant (omega (arith, c.marked_in_week.ensures.value))).0

pub returns-then-marked_in_week-n-clause-value : goal.returns-then-marked_in_week-n-clause-value
returns-then-marked_in_week-n-clause-value c =
    (marked-here (is_marked c.args.self.now) c.args.n c.loop-index.index c.loop-index.invariant (omega (arith, c.marked_in_week.ensures.value))).1
