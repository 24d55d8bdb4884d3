use Rattle.std.proofs.Common.{◌∙◌, Some, arith}
use Rattle.cal_schedule.proofs.RulePrevious.{end_at, found-joined, previous_is, previous_rest}
use Rattle.cal_schedule.proofs.rule.rule.Rule.previous_before.Goals as goal

pub returns-in-Some-clause-value : goal.returns-in-Some-clause-value
returns-in-Some-clause-value c =
    let rule = c.args.self.now in
    let end = end_at c.args.self.now _ c.args.date _ (c.from.ensures ∙ c.day_number.ensures.value) c.end_before-end.ensures in
    previous_is rule c.args.date (Some c.in-Some.day)
    (found-joined rule rule.start c.later-first.result c.end_before-end.result c.args.date c.in-Some.day (omega (arith, c.later-first.ensures)) end.most end.none c.in-Some.ensures.value)

pub returns-clause-value : goal.returns-clause-value
returns-clause-value c =
    let rule = c.args.self.now in
    let end = end_at c.args.self.now _ c.args.date _ (c.from.ensures ∙ c.day_number.ensures.value) c.end_before-end.ensures in
    previous_is rule c.args.date c.last_back-2.result
    (previous_rest rule c.args.date c.end_before-end.result c.later-first.result _ c.last_back-2.result (omega arith) end
    (omega (arith, c.later-first.ensures, c.saturating_sub.ensures, c.from-2.ensures, c.interval_or_1.ensures.value))
    (omega (arith, c.min.ensures, c.from-3.ensures, c.day_number-2.ensures.value)) c.in_default.ensures.value c.last_back-2.ensures.value)
