use Rattle.std.proofs.Common.{◌≡◌, ap, arith, sym, ◌∙◌}
use Rattle.std.proofs.lemmas.Int.{ints}
use Rattle.cal_date.specs.CountLaws.{days_of_years, years_before}
use Rattle.cal_date.specs.Date.{year_at}
use Rattle.cal_date.proofs.Dates.{stands}
use Rattle.cal_date.proofs.JulianDays.{julian_day_of-is}
use Rattle.cal_date.proofs.date.Date.to_julian_day.Goals as goal

pub returns-clause-value : goal.returns-clause-value
returns-clause-value c =
    let at = stands c.args.self in
    let sum : c.days_of_years.result ≡ days_of_years (years_before (year_at c.args.self)) = c.days_of_years.ensures.value ∙ ap days_of_years (omega (arith, ints, at.year)) in
    omega (arith, ints, sum, at.number_is, at.ordinal.0)

pub returns-clause-closed_form : goal.returns-clause-closed_form
returns-clause-closed_form c = returns-clause-value c ∙ sym (julian_day_of-is c.args.self)

pub returns-clause-order : goal.returns-clause-order
returns-clause-order c = λ n h. let day = returns-clause-value c in (λ before. omega (arith, ints), λ before. omega (arith, ints))

pub returns-clause-julian_day : goal.returns-clause-julian_day
returns-clause-julian_day c = sym (returns-clause-value c)
