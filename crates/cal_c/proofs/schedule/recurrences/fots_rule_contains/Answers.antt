use Rattle.std.proofs.Common.{◌≡◌, ap, ◌∙◌, rules, if◌then◌else◌, pos}
use Rattle.std.proofs.lemmas.Int.{to_z-of_z}
use Rattle.cal_recurrence.specs.Sets.{is_in_set}
use Rattle.cal_c.specs.Recurrences.{set_in}
use Rattle.cal_c.specs.Results.{number_ok}
use Rattle.cal_c.proofs.schedule.recurrences.fots_rule_contains.Goals as goal

pub returns-clause-value : goal.returns-clause-value
returns-clause-value c = λ h k.
    let f = c.ranges.date in
    let at = simp to_z-of_z at c.in-Some.ensures in
    let number : c.ok.result ≡ number_ok (if c.contains.result then pos 1 else pos 0) = search rules in
    number ∙ ap (λ on. number_ok (if on then pos 1 else pos 0)) (c.contains.ensures ∙ ap (is_in_set (set_in c.args.rule.now)) at.1)
