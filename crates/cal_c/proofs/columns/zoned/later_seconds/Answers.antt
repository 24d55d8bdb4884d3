use Rattle.std.proofs.Math.Facts.{to_z-of_z}
use Rattle.std.proofs.Common.{refl}
use Rattle.cal_zoned.specs.Unchecked.{result_in}
use Rattle.cal_c.proofs.Needs.{met}
use Rattle.cal_c.proofs.ZonedResults.{at_seen}
use Rattle.cal_c.proofs.columns.zoned.later_seconds.Goals as goal

pub returns-in-None : goal.returns-in-None
returns-in-None c = λ order.
    let g = c.ranges.seconds in
    let none = simp to_z-of_z at c.in-None.ensures in
    record { error = λ _. refl; value = λ is. absurd (none order is) }

pub returns : goal.returns
returns c = λ order.
    let z = c.args.zone.now in
    let g = c.ranges.seconds in
    let seen = simp to_z-of_z at c.in-Some.ensures in
    met (seen order).0 (result_in z c.period_later.result, at_seen z c.args.policy _ c.in-Some.value c.args.period _ (seen order).1 (c.period_later.ensures order), c.seconds_row.ensures z)
