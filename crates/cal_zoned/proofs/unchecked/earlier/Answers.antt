use Rattle.std.proofs.Common.{◌-ℤ◌, FitsSigned, rules}
use Rattle.std.specs.Int.{w128}
use Rattle.std.proofs.lemmas.Int.{to_z-of_z}
use Rattle.cal_datetime.specs.OffsetDateTime.{instant}
use Rattle.cal_zoned.proofs.Instants.{difference_at_instant, difference_fits}
use Rattle.cal_zoned.proofs.ZoneResults.{seen_from}
use Rattle.cal_zoned.proofs.unchecked.earlier.Goals as goal

pub returns : goal.returns
returns c = λ order.
    let n = c.nanoseconds_of.ensures in
    let d = c.whole_nanoseconds.ensures in
    let f : FitsSigned w128 c.nanoseconds_of.result = search rules in
    let g : FitsSigned w128 c.whole_nanoseconds.result = search rules in
    let s : FitsSigned w128 (c.nanoseconds_of.result -ℤ c.whole_nanoseconds.result) = difference_fits _ _ (instant c.args.moment) c.args.duration n.value d.value n.range d.range in
    let h = simp to_z-of_z at c.found_at.ensures in
    seen_from c.args.zone.now _ _ _ (difference_at_instant c.nanoseconds_of.result c.whole_nanoseconds.result (instant c.args.moment) c.args.duration n.value d.value) (h order)
