use Rattle.std.proofs.Common.{◌≡◌, ◌+◌, ◌-◌, ◌%◌, ◌<◌, ◌∙◌, refl, sym, ap, arith}
use Rattle.cal_units.specs.Weekday.{index}
use Rattle.cal_units.specs.WeekdayCycle.{index-weekday_of_index}
use Rattle.cal_units.specs.Weeks.{first_weekday}
use Rattle.cal_date.specs.Date.{year_at, ordinal_at}
use Rattle.cal_date.proofs.Dates.{in_range}
use Rattle.cal_date.proofs.IsoForms.{weekday_at-first_weekday}
use Rattle.cal_date.proofs.date.Date.weekday.Goals as goal

pub returns-clause-value : goal.returns-clause-value
returns-clause-value c =
    let n = c.args.self in
    let year = (in_range n _ _ c.ordinal_index.ensures.in_range (refl, refl)).year in
    let here = c.weekday_index.ensures (year_at n) year c.year_index.ensures.value in
    let days : c.ordinal_index.result ≡ ordinal_at n - 1 = omega (arith, c.ordinal_index.ensures.value) in
    let below : c.weekday_index.result < 7 = omega (arith, here) in
    ap index c.at.ensures ∙ index-weekday_of_index _ below ∙ here ∙ ap (λ k. (first_weekday (year_at n) + k) % 7) days ∙ sym (weekday_at-first_weekday n)
