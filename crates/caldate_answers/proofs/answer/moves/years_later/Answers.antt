use Rattle.std.proofs.Common.{◌≡◌, arith, to_z, of_z, w32, w64, pos, ◌*ℤ◌}
use Rattle.std.proofs.lemmas.Int.{ints, to_z-of_z}
use Rattle.cal_schedule.specs.Months.{IsMonthsLater}
use Rattle.caldate_answers.proofs.Leads.{by_nearest, years_inside}
use Rattle.caldate_answers.proofs.answer.moves.years_later.Goals as goal

pub returns : goal.returns
returns c =
    let z = c.args.years in
    let near = c.nearest.ensures in
    let later = c.checked_add_years.ensures in
    let same : to_z w64 (of_z w64 z) ≡ z = to_z-of_z w64 z c.ranges.years in
    by_nearest (λ y. IsMonthsLater c.args.date (pos 12 *ℤ y)) z (to_z w32 (of_z w32 c.nearest.result)) c.checked_add_years.result later.every later.value (years_inside c.args.date later.in_range)
    (record {
      below = λ h. omega (arith, ints, near.below (omega (arith, ints, same, h)));
      within = λ h i. omega (arith, ints, same, near.within (omega (arith, ints, same, h)) (omega (arith, ints, same, i)));
      above = λ h. omega (arith, ints, near.above (omega (arith, ints, same, h)));
    })
