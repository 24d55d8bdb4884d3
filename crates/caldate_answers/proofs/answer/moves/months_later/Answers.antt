use Rattle.std.proofs.Common.{◌≡◌, arith, to_z, of_z, w64}
use Rattle.std.proofs.lemmas.Int.{ints, to_z-of_z}
use Rattle.cal_schedule.specs.Months.{IsMonthsLater}
use Rattle.caldate_answers.proofs.Leads.{by_nearest, months_inside}
use Rattle.caldate_answers.proofs.answer.moves.months_later.Goals as goal

pub returns : goal.returns
returns c =
    let z = c.args.months in
    let near = c.nearest.ensures in
    let later = c.checked_add_months.ensures in
    let same : to_z w64 (of_z w64 z) ≡ z = to_z-of_z w64 z c.ranges.months in
    by_nearest (IsMonthsLater c.args.date) z _ c.checked_add_months.result later.every later.value (months_inside c.args.date later.in_range)
    (record {
      below = λ h. omega (arith, ints, near.below (omega (arith, ints, same, h)));
      within = λ h i. omega (arith, ints, same, near.within (omega (arith, ints, same, h)) (omega (arith, ints, same, i)));
      above = λ h. omega (arith, ints, near.above (omega (arith, ints, same, h)));
    })
