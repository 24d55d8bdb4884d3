use Rattle.std.proofs.Common.{◌≡◌, ◌-ℤ◌, ap, arith, pos, subst}
use Rattle.std.proofs.lemmas.Int.{ints}
use Rattle.cal_datetime.specs.OffsetDateTime.{LocalAndOffset, instant, local_at}
use Rattle.cal_recurrence.specs.OffsetRange.{IsStart}
use Rattle.cal_recurrence.proofs.OffsetRanges.{begins-at}
use Rattle.cal_recurrence.proofs.ZonedSearch.{near}
use Rattle.cal_recurrence.proofs.offset_range.earliest_in.Goals as goal

pub utc_offset-requires : goal.utc_offset-requires
utc_offset-requires c = omega (arith, ints, c.offsets_near-offsets.ensures.min.range.0, c.offsets_near-offsets.ensures.min.range.1)

pub returns-in-Some : goal.returns-in-Some
returns-in-Some c =
    let zone = c.args.zone.now in
    let x = instant c.args.moment in
    let offsets = c.offsets_near-offsets in
    let there = ap (λ (m : LocalAndOffset). m.local) c.in-Some.ensures.value.1 in
    let same : local_at x offsets.result.min ≡ c.local.result = omega (arith, ints, c.local.ensures.value, there, c.utc_offset.ensures, offsets.ensures.min.range.0, offsets.ensures.min.range.1) in
    subst (IsStart zone (x -ℤ pos 1)) same (begins-at zone x offsets.result offsets.ensures)

pub returns-in-None : goal.returns-in-None
returns-in-None c = λ z m range meant late.
    let far = (near c.args.zone.now z m meant).0 in
    c.earliest_reading.ensures z range (omega (arith, ints, far, late))
