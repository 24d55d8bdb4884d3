use Rattle.std.proofs.Common.{◌+ℤ◌, FitsSigned, rules, refl}
use Rattle.std.specs.Int.{w128}
use Rattle.std.proofs.lemmas.Int.{to_z-of_z}
use Rattle.cal_datetime.specs.OffsetDateTime.{instant}
use Rattle.cal_zoned.proofs.Instants.{sum_at_instant, sum_fits}
use Rattle.cal_zoned.proofs.ZoneResults.{seen_from}
use Rattle.cal_zoned.proofs.unchecked.later_by.Goals as goal

pub returns : goal.returns
returns c = λ order.
    let n = c.nanoseconds_of.ensures in
    let d = c.ranges.nanoseconds in
    let f : FitsSigned w128 c.nanoseconds_of.result = search rules in
    let s : FitsSigned w128 (c.nanoseconds_of.result +ℤ c.args.nanoseconds) = sum_fits _ _ (instant c.args.moment) n.value n.range c.requires in
    let h = simp to_z-of_z at c.found_at.ensures in
    seen_from c.args.zone.now _ _ _ (sum_at_instant c.nanoseconds_of.result c.args.nanoseconds (instant c.args.moment) c.args.nanoseconds n.value refl) (h order)
