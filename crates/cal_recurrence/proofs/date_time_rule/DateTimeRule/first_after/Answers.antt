use Rattle.std.proofs.Common.{◌+◌, ◌∙◌, ap, take}
use Rattle.std.specs.Prelude.{unsigned_abs}
use Rattle.cal_recurrence.specs.DateTimeRule.{is_occurrence, occurrences_after, occurrences_left}
use Rattle.cal_recurrence.proofs.RuleOccurrences.{left-from}
use Rattle.cal_recurrence.proofs.date_time_rule.DateTimeRule.first_after.Goals as goal

pub returns : goal.returns
returns c =
    let rule = c.args.self.now in
    ap (λ n. take n (occurrences_left c.copy.result c.next_after-front.result)) c.from.ensures
    ∙ ap (λ r. take c.args.count (occurrences_left r c.next_after-front.result)) c.copy.ensures
    ∙ ap (take c.args.count) (left-from (is_occurrence rule) (unsigned_abs c.args.reading + 1) c.next_after-front.result c.next_after-front.ensures)
