use Rattle.std.proofs.Common.{subst, ◌∙◌, arith, rules, w32, FitsSigned}
use Rattle.std.proofs.lemmas.Int.{to_z-of_z}
use Rattle.cal_units.proofs.Weeks.{weeks_in_year-most}
use Rattle.cal_date.specs.Date.{IsYear}
use Rattle.cal_date.specs.ClosedForms.{IsWeekByClosedForm}
use Rattle.cal_date.specs.IsoWeekDate.{iso_year_at, IsWeek}
use Rattle.cal_date.proofs.Dates.{IsYear-i32}
use Rattle.cal_date.proofs.IsoForms.{HasIsoWeekDate-closed}
use Rattle.cal_date.proofs.IsoWeeks.{IsYear-iso_year_at, iso_week_at-range, iso_week_dates-in_order}
use Rattle.cal_date.proofs.date.Date.to_iso_week_date.Goals as goal

pub returns-clause-closed_form : goal.returns-clause-closed_form
unfolding IsWeekByClosedForm
returns-clause-closed_form c =
    let is = c.iso_year_and_week-iso_year.ensures in
    let fits : FitsSigned w32 c.iso_year_and_week-iso_year.result.0 = search rules in
    let year = rw (IsYear-i32 c.year.result c.year.ensures.range, c.year.ensures.value, c.ordinal.ensures.value, c.weekday-weekday.ensures.value) at is.year in
    let week = rw (IsYear-i32 c.year.result c.year.ensures.range, c.year.ensures.value, c.ordinal.ensures.value, c.weekday-weekday.ensures.value) at is.week in
    (to_z-of_z w32 _ fits ∙ year, week)

pub returns-clause-value : goal.returns-clause-value
unfolding IsWeekByClosedForm
returns-clause-value c =
    let closed = returns-clause-closed_form c in
    rw (closed.0, closed.1, c.weekday-weekday.ensures.value) (HasIsoWeekDate-closed c.args.self)

pub returns-clause-range : goal.returns-clause-range
returns-clause-range c =
    let has = returns-clause-value c in
    let week = iso_week_at-range c.args.self in (
      subst IsYear has.0 (IsYear-iso_year_at c.args.self c.year.ensures.in_range),
      subst (λ y. IsWeek y c.iso_year_and_week-iso_year.result.1) has.0 (subst (IsWeek (iso_year_at c.args.self)) has.1 week),
      omega (arith, has.1, week.1, weeks_in_year-most (iso_year_at c.args.self)),
    )

pub returns-clause-order : goal.returns-clause-order
returns-clause-order c = λ n d. iso_week_dates-in_order _ _ _ _ n (returns-clause-value c)
