use Rattle.std.proofs.Common.{◌-◌, ◌≤◌, ◌∙◌, arith}
use Rattle.std.proofs.lemmas.Bool.Decides.{nat_tests}
use Rattle.cal_recurrence.specs.Cursors.{days_left}
use Rattle.cal_recurrence.proofs.Cursors.{all_late}
use Rattle.cal_recurrence.proofs.day_cursor.DayCursor.skip_to.Goals as goal

pub returns-then-le : goal.returns-then-le
returns-then-le c =
    let rule = c.args.rule.now in
    let less : c.args.date ≤ c.in-Some.day = grind (arith, nat_tests) in
    all_late rule c.args.date c.in-Some.day (c.loop-day.self.left - 1) (days_left rule c.loop-day.self) less c.in-Some.ensures.day ∙ c.loop-day.invariant
