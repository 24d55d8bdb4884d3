use Rattle.std.proofs.Common.{◌+◌, ap, ◌∙◌}
use Rattle.cal_time.specs.IsoWeekDate.{count_before}
use Rattle.cal_schedule.specs.Rule.{passes}
use Rattle.cal_schedule.proofs.RulePositions.{no-positions, positions-are}
use Rattle.cal_schedule.proofs.rule.rule.Rule.matches_positions.Goals as goal

pub returns-then-is_empty : goal.returns-then-is_empty
returns-then-is_empty c = no-positions c.args.self.now c.args.date c.if-is_empty.ensures

pub returns : goal.returns
returns c =
    let rule = c.args.self.now in
    let ahead = c.count_passing-ahead in
    let back = c.count_passing-back in
    c.is_position.ensures
    ∙ positions-are rule c.args.date c.period_start.result c.period_end.result ahead.result back.result c.period_start.ensures c.period_end.ensures
    (ahead.ensures.value ∙ ap (λ n. count_before (passes rule) (n + 1)) c.day_number.ensures.value) back.ensures.value
