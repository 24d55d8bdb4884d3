use Rattle.std.proofs.Common.{◌≡◌, arith, to_z, of_z, w64}
use Rattle.std.proofs.lemmas.Int.{ints, to_z-of_z}
use Rattle.caldate_answers.proofs.Leads.{workday_by_nearest}
use Rattle.caldate_answers.proofs.answer.moves.workdays_later.Goals as goal

pub returns : goal.returns
returns c =
    let z = c.args.days in
    let near = c.nearest.ensures in
    let later = c.checked_add_workdays.ensures in
    let same : to_z w64 (of_z w64 z) ≡ z = to_z-of_z w64 z c.ranges.days in
    workday_by_nearest c.args.workdays.now z _ c.args.date c.checked_add_workdays.result later.value later.in_range
    (record {
      below = λ h. omega (arith, ints, near.below (omega (arith, ints, same, h)));
      within = λ h i. omega (arith, ints, same, near.within (omega (arith, ints, same, h)) (omega (arith, ints, same, i)));
      above = λ h. omega (arith, ints, near.above (omega (arith, ints, same, h)));
    })
