use Rattle.std.proofs.Common.{◌+◌, ◌-◌, ◌%◌, ◌/◌, arith}
use Rattle.cal_schedule.specs.Ranks.{count-most}
use Rattle.cal_schedule.specs.Rule.{passes}
use Rattle.cal_schedule.proofs.PositionSkips.{counted_weeks}
use Rattle.cal_schedule.proofs.rule.rule.Rule.count_passing.Goals as goal

pub returns-then-has_only_weekdays-clause-value : goal.returns-then-has_only_weekdays-clause-value
returns-then-has_only_weekdays-clause-value c =
    let days = c.args.end - c.day_number.result in
    counted_weeks c.args.self.now c.args.from (days / 7) (days % 7) c.count_weekdays-week.result c.count_weekdays.result c.args.end (c.has_only_weekdays.ensures c.if-has_only_weekdays.true)
    c.count_weekdays-week.ensures.value c.count_weekdays.ensures.value (omega (arith, c.day_number.ensures.value, c.requires.order))

pub returns-then-has_only_weekdays-clause-max : goal.returns-then-has_only_weekdays-clause-max
returns-then-has_only_weekdays-clause-max c = omega (arith, returns-then-has_only_weekdays-clause-value c, count-most (passes c.args.self.now) c.args.end)
