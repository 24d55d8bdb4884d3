use Rattle.std.proofs.Common.{◌+◌, ap, ◌∙◌}
use Rattle.cal_time.specs.IsoWeekDate.{count_before}
use Rattle.cal_schedule.specs.Rule.{passes}
use Rattle.cal_schedule.proofs.RulePositions.{ahead-is, back-is}
use Rattle.cal_schedule.proofs.rule.rule.Rule.ranks.Goals as goal

pub returns-clause-ahead : goal.returns-clause-ahead
returns-clause-ahead c =
    let rule = c.args.self.now in
    let ahead = c.count_passing-ahead in
    ahead-is rule c.args.date c.period_start.result ahead.result c.period_start.ensures (ahead.ensures.value ∙ ap (λ n. count_before (passes rule) (n + 1)) c.day_number.ensures.value)

pub returns-clause-back : goal.returns-clause-back
returns-clause-back c =
    let back = c.count_passing-back in
    back-is c.args.self.now c.args.date c.period_end-end.result back.result c.period_end-end.ensures back.ensures.value
