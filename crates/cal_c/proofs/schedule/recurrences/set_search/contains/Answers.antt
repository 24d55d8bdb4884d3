use Rattle.std.proofs.Common.{refl, ap, ◌∙◌}
use Rattle.cal_c.specs.Recurrences.{set_in}
use Rattle.cal_c.proofs.RuleSets.{in_rule}
use Rattle.cal_c.proofs.schedule.recurrences.set_search.contains.Goals as goal

pub returns-then-has_no_dates : goal.returns-then-has_no_dates
returns-then-has_no_dates c =
    let same = in_rule (set_in c.args.parts.now) c.args.rule c.requires.rule (c.if-has_no_dates.ensures.dates refl) (c.if-has_no_dates.ensures.exceptions refl) in
    c.contains.ensures.value ∙ ap (λ test. test c.args.date) same
