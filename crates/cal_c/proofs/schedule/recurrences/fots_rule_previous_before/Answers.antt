use Rattle.std.proofs.Common.{ap, ◌∙◌, slice_get}
use Rattle.std.proofs.lemmas.Int.{to_z-of_z}
use Rattle.cal_recurrence.specs.Sets.{set_days_before}
use Rattle.cal_c.specs.Recurrences.{set_in}
use Rattle.cal_c.specs.Results.{date_or_out_of_range}
use Rattle.cal_c.proofs.schedule.recurrences.fots_rule_previous_before.Goals as goal

pub returns-clause-value : goal.returns-clause-value
returns-clause-value c = λ h k.
    let f = c.ranges.date in
    let at = simp to_z-of_z at c.in-Some.ensures in
    c.from_option.ensures ∙ ap date_or_out_of_range (c.previous_before.ensures ∙ ap (λ n. slice_get (set_days_before (set_in c.args.rule.now) n) 0) at.1)
