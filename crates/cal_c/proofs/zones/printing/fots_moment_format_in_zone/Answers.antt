use Rattle.std.proofs.Common.{refl, ap, ◌∙◌, arith, w64}
use Rattle.std.proofs.lemmas.Int.{ints, to_z-of_z}
use Rattle.cal_zone.specs.Timeline.{kind_at, offset_at}
use Rattle.cal_c.proofs.FormatItems.{some_one}
use Rattle.cal_c.proofs.ZoneResults.{for_none, for_zone}
use Rattle.cal_c.proofs.ZoneTexts.{printed_there}
use Rattle.cal_c.proofs.zones.printing.fots_moment_format_in_zone.Goals as goal

pub returns-in-None-unchecked-clause-value : goal.returns-in-None-unchecked-clause-value
returns-in-None-unchecked-clause-value c _ items h =
    for_none _ _ _ c.in-None-unchecked.ensures (record { result_is = c.error-in-None-unchecked.ensures; unchanged = refl })

pub returns-in-None-utc_offset_at-clause-value : goal.returns-in-None-utc_offset_at-clause-value
returns-in-None-utc_offset_at-clause-value c _ items h =
    for_zone _ _ _ _ c.in-Some-unchecked.ensures (λ order. absurd (c.in-None-utc_offset_at.ensures.none order))

pub returns-clause-value : goal.returns-clause-value
returns-clause-value c _ items h =
    let z = c.in-Some-unchecked.value in
    let at = to_z-of_z w64 c.unix_timestamp-seconds.result (omega (arith, ints)) ∙ c.unix_timestamp-seconds.ensures.value in
    for_zone _ _ _ _ c.in-Some-unchecked.ensures (λ order.
    printed_there c.args.zone.now.bytes.now z c.in-Some.value _ c.kind_at.result c.abbreviation-abbreviation.result.now c.in-Some-utc_offset_at.value c.in-Some-to_format.value items c.args.bytes.now c.print_at.new.bytes c.print_at.result
    c.in-Some.ensures.1 (c.kind_at.ensures order ∙ ap (kind_at z) at) c.abbreviation-abbreviation.ensures (c.in-Some-utc_offset_at.ensures.some order ∙ ap (offset_at z) at)
    (some_one c.to_format.result _ items c.in-Some-to_format.is (c.to_format.ensures.every items h)) c.print_at.ensures)
