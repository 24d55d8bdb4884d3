use Rattle.std.proofs.Common.{ap, ◌∙◌, subst, sym}
use Rattle.std.proofs.lemmas.Int.{to_z-of_z}
use Rattle.cal_recurrence.specs.Sets.{set_days_after}
use Rattle.cal_c.specs.Recurrences.{days_ok, set_in, AreDatesWritten}
use Rattle.cal_c.proofs.schedule.recurrences.fots_rule_days_after.Goals as goal

pub returns-clause-value : goal.returns-clause-value
returns-clause-value c = λ h k.
    let f = c.ranges.date in
    let at = simp to_z-of_z at c.in-Some.ensures in
    let count = ap (λ r. r.length) c.ok.ensures in
    let old = c.args.days.now in
    let new = c.write_days_after.new.days in (
      c.ok.ensures ∙ ap days_ok (sym count),
      subst (λ n. AreDatesWritten (set_days_after (set_in c.args.rule.now) n) old new c.ok.result.length) at.1
          (subst (AreDatesWritten (set_days_after (set_in c.args.rule.now) c.in-Some.value) old new) (sym count) c.write_days_after.ensures),
    )
