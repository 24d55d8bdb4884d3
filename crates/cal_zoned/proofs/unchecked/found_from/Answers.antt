use Rattle.std.proofs.Common.{◌∙◌, rules, FitsSigned}
use Rattle.std.specs.Int.{w128}
use Rattle.std.proofs.lemmas.Int.{to_z-of_z}
use Rattle.cal_zoned.proofs.Instants.{instant_at}
use Rattle.cal_zoned.proofs.ZoneResults.{seen_from}
use Rattle.cal_zoned.proofs.unchecked.found_from.Goals as goal

pub returns : goal.returns
returns c = λ order.
    let n = c.unix_timestamp_nanos.result in
    let f : FitsSigned w128 n = search rules in
    let h = simp to_z-of_z at c.found_at.ensures in
    seen_from c.args.zone.now _ _ _ (instant_at n _ c.unix_timestamp_nanos.ensures ∙ c.assume_offset.ensures.instant) (h order)
