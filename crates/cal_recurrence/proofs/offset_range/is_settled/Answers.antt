use Rattle.std.proofs.Common.{◌≤ℤ◌, arith, subst, sym}
use Rattle.std.proofs.lemmas.Int.{ints}
use Rattle.cal_datetime.specs.OffsetDateTime.{instant, local_at}
use Rattle.cal_recurrence.specs.OffsetRange.{IsSettled}
use Rattle.cal_recurrence.proofs.OffsetRanges.{settled-at}
use Rattle.cal_recurrence.proofs.offset_range.is_settled.Goals as goal

pub utc_offset-requires : goal.utc_offset-requires
utc_offset-requires c = omega (arith, ints, c.offsets_near-offsets.ensures.max.range.0, c.offsets_near-offsets.ensures.max.range.1)

pub returns-in-Some : goal.returns-in-Some
returns-in-Some c = λ e.
    let zone = c.args.zone.now in
    let one = c.in-Some.one in
    let offsets = c.offsets_near-offsets in
    let order : instant one ≤ℤ instant c.assume_offset.result = grind (arith, ints, c.le.ensures, e) in
    let past : local_at (instant one) offsets.result.max ≤ℤ c.args.reading = omega (arith, ints, order, c.assume_offset.ensures.instant, c.utc_offset.ensures, offsets.ensures.max.range.0, offsets.ensures.max.range.1) in
    subst (λ r. IsSettled zone r c.args.reading) (sym c.in-Some.is)
    (settled-at zone one c.args.reading offsets.result offsets.ensures past)
