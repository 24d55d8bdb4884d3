use Rattle.std.proofs.Common.{◌≡◌, ◌+◌, min, ap, ◌∙◌, arith}
use Rattle.std.specs.Int.{from_bool}
use Rattle.cal_time.specs.Date.{last_day}
use Rattle.cal_time.specs.IsoWeekDate.{count_before}
use Rattle.cal_schedule.specs.Ranks.{bit-most, count-most}
use Rattle.cal_schedule.specs.Rule.{passes}
use Rattle.cal_schedule.proofs.RulePositions.{counted-more}
use Rattle.cal_schedule.proofs.rule.rule.Rule.count_days.Goals as goal

pub loop-day-init : goal.loop-day-init
loop-day-init c =
    let from : c.args.from ≡ min c.args.from c.args.end = omega arith in
    record { counted = omega (arith, ap (count_before (passes c.args.self.now)) from) }

pub loop-day-preserved : goal.loop-day-preserved
loop-day-preserved c =
    let rule = c.args.self.now in
    let at = c.loop-day in
    let here : min at.day c.args.end ≡ at.day = omega arith in
    let next = c.in-Some.ensures in
    record {
      counted = counted-more rule c.args.from c.args.end at.day c.in-Some.next at.count c.from-count.result (omega arith)
          (at.invariant.counted ∙ ap (count_before (passes rule)) here) (c.from-count.ensures ∙ ap from_bool c.passes.ensures) next.0 next.2;
    }

pub overflow_add-count : goal.overflow_add-count
overflow_add-count c =
    omega (arith, count-most (passes c.args.self.now) (min c.loop-day.day c.args.end), bit-most c.passes.result c.from-count.result c.from-count.ensures)

pub returns-in-None-clause-value : goal.returns-in-None-clause-value
returns-in-None-clause-value c =
    let rule = c.args.self.now in
    let at = c.loop-day in
    let here : min at.day c.args.end ≡ at.day = omega arith in
    let last : min (last_day + 1) c.args.end ≡ c.args.end = omega arith in
    counted-more rule c.args.from c.args.end at.day (last_day + 1) at.count c.from-count.result (omega arith)
    (at.invariant.counted ∙ ap (count_before (passes rule)) here) (c.from-count.ensures ∙ ap from_bool c.passes.ensures) (omega arith) c.in-None.ensures
    ∙ ap (count_before (passes rule)) last

pub returns-in-None-clause-max : goal.returns-in-None-clause-max
returns-in-None-clause-max c = omega (arith, returns-in-None-clause-value c, count-most (passes c.args.self.now) c.args.end)

pub returns-clause-max : goal.returns-clause-max
returns-clause-max c = omega (arith, count-most (passes c.args.self.now) (min c.loop-day.day c.args.end))
