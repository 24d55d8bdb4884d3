use Rattle.std.proofs.Common.{◌≡◌, ◌+◌, ◌*◌, ◌∙◌, ap, arith, pos, ◌+ℤ◌, sym}
use Rattle.std.proofs.lemmas.Int.{ints}
use Rattle.cal_time.specs.Date.{year_at}
use Rattle.cal_schedule.specs.Rule.{fourth_day, period_index}
use Rattle.cal_schedule.specs.declared.rule.unit.PeriodUnit.TheVariants.{WeekYear}
use Rattle.cal_schedule.proofs.RulePeriods.{periods, pos-week_years, pos-years}
use Rattle.cal_schedule.proofs.rule.periods.week_year.Goals as goal

index : (c : goal.After-year_index) → c.year_index.result + 400 * c.fourth_day-day.result.1 ≡ period_index (WeekYear c.args.first) c.args.date + 399
index c =
    let first = c.args.first in
    let at = c.fourth_day-day in
    let year : year_at (fourth_day first c.args.date) ≡ year_at at.result.0 +ℤ pos (400 * at.result.1) =
    ap year_at (sym at.ensures.place) ∙ (periods at.result.0 at.result.1).year in
    omega (arith, ints, year, c.year_index.ensures.value, pos-years at.result.0, pos-week_years first c.args.date)

pub overflow_sub-result : goal.overflow_sub-result
overflow_sub-result c = omega (arith, index c)

pub returns-clause-value : goal.returns-clause-value
returns-clause-value c = omega (arith, index c)
