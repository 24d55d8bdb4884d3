use Rattle.std.proofs.Common.{◌∙◌, sym, ap, w8}
use Rattle.std.proofs.lemmas.Int.{to_z-of_z}
use Rattle.cal_schedule.specs.Rule.{is_week}
use Rattle.cal_schedule.proofs.RulePeriods.{is_week-places}
use Rattle.cal_schedule.proofs.rule.weeks.is_week.Goals as goal

pub returns : goal.returns
returns c =
    let first = c.args.first in
    c.is_nth_in_period.ensures.value
    ∙ sym (is_week-places first c.args.date _ _ _ (sym c.fourth_day.ensures.place))
    ∙ ap (is_week first c.args.date) (to_z-of_z w8 _ c.ranges.n)
