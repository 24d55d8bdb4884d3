use Rattle.std.proofs.Common.{◌∙◌, sym, ap}
use Rattle.std.specs.List.{list_any}
use Rattle.cal_schedule.proofs.RulePeriods.{is_week-places}
use Rattle.cal_schedule.proofs.rule.weeks.any_week.Goals as goal

pub returns : goal.returns
returns c =
    let first = c.args.first in
    c.any_nth.ensures
    ∙ ap (λ test. list_any test c.args.weeks.now)
    (λ i week. sym (is_week-places first c.args.date _ _ week (sym c.fourth_day.ensures.place)) i)
