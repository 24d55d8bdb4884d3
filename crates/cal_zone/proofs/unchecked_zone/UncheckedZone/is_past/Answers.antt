use Rattle.std.proofs.Common.{◌≡◌, suc, ◌-ℤ◌, ap, arith, add-one, to_z, of_z, w64}
use Rattle.std.proofs.lemmas.Int.{ints, clamps, to_z-of_z}
use Rattle.std.specs.Int.{int_max}
use Rattle.cal_zone.specs.Timeline.{after_changes}
use Rattle.cal_zone.proofs.Readings.{past_test}
use Rattle.cal_zone.proofs.unchecked_zone.UncheckedZone.is_past.Goals as goal

pub returns : goal.returns
returns c =
    let after = after_changes c.args.self.now.first.offset c.args.self.now.changes in
    let most : c.max-most.result ≡ int_max (after c.args.index) (after (suc c.args.index)) =
    omega (arith, ints, clamps, c.max-most.ensures.value, c.after.ensures, c.after-2.ensures, ap after (add-one c.args.index)) in
    let moved : to_z w64 (of_z w64 (to_z w64 (of_z w64 c.args.reading) -ℤ to_z w64 (of_z w64 c.from.result))) ≡ (c.args.reading -ℤ c.max-most.result) = omega (arith, ints) in
    past_test _ _ _ c.args.reading c.max-most.result (after c.args.index) (after (suc c.args.index))
    (to_z-of_z w64 c.time.result (omega (arith, ints))) c.time.ensures moved most
