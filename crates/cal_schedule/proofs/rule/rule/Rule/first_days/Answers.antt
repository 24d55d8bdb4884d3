use Rattle.std.proofs.Common.{◌∙◌, ap, take}
use Rattle.cal_schedule.specs.Rule.{occurrences_left}
use Rattle.cal_schedule.proofs.Rules.{left_from_start}
use Rattle.cal_schedule.proofs.rule.rule.Rule.first_days.Goals as goal

pub returns : goal.returns
returns c =
    ap (λ rule. take c.args.count (occurrences_left rule c.next_from.result)) c.rule.ensures
    ∙ ap (take c.args.count) (left_from_start c.args.self.now c.next_from.result c.next_from.ensures)
