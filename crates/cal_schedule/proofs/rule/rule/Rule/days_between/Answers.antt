use Rattle.std.proofs.Common.{◌∙◌, ap, arith}
use Rattle.cal_schedule.specs.Rule.{occurrences_from}
use Rattle.cal_schedule.proofs.RulePrevious.{end_at}
use Rattle.cal_schedule.proofs.RuleSpans.{between_is, none_between}
use Rattle.cal_schedule.proofs.rule.rule.Rule.days_between.Goals as goal

pub returns-then-end-eq0 : goal.returns-then-end-eq0
returns-then-end-eq0 c =
    let end = end_at c.args.self.now _ c.args.to _ (c.from.ensures ∙ c.day_number.ensures.value) c.end_before-end.ensures in
    c.first_days.ensures ∙ none_between c.args.self.now c.args.from c.args.to c.end_before-end.result end (omega arith)

pub returns : goal.returns
returns c =
    let end = end_at c.args.self.now _ c.args.to _ (c.from.ensures ∙ c.day_number.ensures.value) c.end_before-end.ensures in
    c.walk_from.ensures ∙ ap (λ rule. occurrences_from rule c.args.from) c.rule.ensures
    ∙ between_is c.args.self.now c.args.from c.args.to c.end_before-end.result c.to_date-last.result end (omega arith) (omega (arith, c.to_date-last.ensures))
