use Rattle.std.proofs.Common.{◌∙◌, ap, rules, FitsSigned, ℤ, ◌+ℤ◌}
use Rattle.std.specs.Int.{w128}
use Rattle.std.proofs.lemmas.Int.{to_z-of_z}
use Rattle.cal_datetime.specs.OffsetDateTime.{unix_epoch}
use Rattle.cal_zoned.specs.Unchecked.{result_in}
use Rattle.cal_c.proofs.Needs.{met}
use Rattle.cal_c.proofs.ZonedResults.{seen_at}
use Rattle.cal_c.proofs.zones.zoned.at_unix_time.Goals as goal

pub returns : goal.returns
returns c = λ order.
    let z = c.args.zone.now in
    let time = c.in-Some.ensures in
    let f : FitsSigned w128 c.whole_nanoseconds.result = search rules in
    let found = simp to_z-of_z at c.found_at.ensures in
    met time.0 (result_in z c.found_at.result, seen_at z _ _ _ (ap (λ (x : ℤ). unix_epoch +ℤ x) (c.whole_nanoseconds.ensures.value ∙ time.1)) (found order), c.zoned_result.ensures z)
