use Rattle.std.proofs.Common.{◌∙◌}
use Rattle.cal_schedule.proofs.Rules.{past_years, year_number}
use Rattle.cal_schedule.proofs.rule.periods.first_of_year.Goals as goal

pub returns-in-Some-clause-value : goal.returns-in-Some-clause-value
returns-in-Some-clause-value c = c.from.ensures ∙ c.day_number.ensures.value ∙ year_number c.args.index c.in-Some.day c.in-Some.ensures

pub returns-in-None-clause-value : goal.returns-in-None-clause-value
returns-in-None-clause-value c = past_years c.args.index c.in-None.ensures
