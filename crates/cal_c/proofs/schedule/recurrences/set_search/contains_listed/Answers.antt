use Rattle.std.proofs.Common.{ap, ◌∙◌}
use Rattle.cal_c.specs.Recurrences.{set_in}
use Rattle.cal_c.proofs.RuleSets.{same_days}
use Rattle.cal_c.proofs.schedule.recurrences.set_search.contains_listed.Goals as goal

pub returns : goal.returns
returns c =
    let same = same_days c.set.result (set_in c.args.parts.now) (c.set.ensures.rule ∙ c.requires.rule) (c.set.ensures.dates ∙ c.from_parts-lists.ensures.dates)
    (c.set.ensures.exceptions ∙ c.from_parts-lists.ensures.exceptions) in
    c.contains.ensures.value ∙ ap (λ test. test c.args.date) same
