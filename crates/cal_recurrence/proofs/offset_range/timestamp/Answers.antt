use Rattle.std.proofs.Common.{arith, subst}
use Rattle.std.proofs.lemmas.Int.{ints}
use Rattle.cal_time.specs.UtcOffset.{IsOffset}
use Rattle.cal_datetime.specs.DateTime.{IsDateTime}
use Rattle.cal_datetime.specs.OffsetDateTime.{instant, unix_seconds}
use Rattle.cal_recurrence.specs.OffsetRange.{IsSecond}
use Rattle.cal_recurrence.proofs.OffsetRanges.{in-time}
use Rattle.cal_recurrence.proofs.ZonedSearch.{in-range}
use Rattle.cal_recurrence.proofs.offset_range.timestamp.Goals as goal

pub returns-clause-range : goal.returns-clause-range
returns-clause-range c =
    let fits : IsSecond (unix_seconds (instant c.args.moment)) =
    in-time (instant c.args.moment) (in-range c.args.moment (subst IsDateTime c.local.ensures.value c.local.ensures.range) (subst IsOffset c.offset.ensures.value c.offset.ensures.range)) in
    (omega (arith, ints, c.unix_timestamp.ensures.value, fits.0, fits.1), omega (arith, ints, c.unix_timestamp.ensures.value, fits.0, fits.1))
