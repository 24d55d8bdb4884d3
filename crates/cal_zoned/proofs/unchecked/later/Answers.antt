use Rattle.std.proofs.Common.{ap, ◌+ℤ◌, ℤ, FitsSigned, rules}
use Rattle.std.specs.Int.{w128}
use Rattle.std.proofs.lemmas.Int.{to_z-of_z}
use Rattle.cal_datetime.specs.OffsetDateTime.{instant}
use Rattle.cal_zoned.proofs.Instants.{duration_within}
use Rattle.cal_zoned.proofs.ZoneResults.{seen_from}
use Rattle.cal_zoned.proofs.unchecked.later.Goals as goal

pub later_by-requires : goal.later_by-requires
later_by-requires c =
    let f : FitsSigned w128 c.whole_nanoseconds.result = search rules in
    simp to_z-of_z (duration_within c.whole_nanoseconds.result c.args.duration c.whole_nanoseconds.ensures.value c.whole_nanoseconds.ensures.range)

pub returns : goal.returns
returns c = λ order.
    let f : FitsSigned w128 c.whole_nanoseconds.result = search rules in
    let h = simp to_z-of_z at c.later_by.ensures in
    seen_from c.args.zone.now _ _ _ (ap (λ (x : ℤ). instant c.args.moment +ℤ x) c.whole_nanoseconds.ensures.value) (h order)
