use Rattle.std.proofs.Common.{◌≡◌, ◌+ℤ◌, rules}
use Rattle.cal_datetime.specs.OffsetDateTime.{unix_epoch}
use Rattle.cal_zoned.specs.Zoned.{seen}
use Rattle.cal_zoned.proofs.Instants.{shows_at}
use Rattle.cal_zoned.proofs.zoned_date_time.ZonedDateTime.from_unix_timestamp_nanos.Goals as goal

pub invariant_of-result : goal.invariant_of-result
invariant_of-result c =
    let n = c.ranges.nanoseconds in
    let h : c.in_ok-moment.moment ≡ seen c.args.zone.now (unix_epoch +ℤ c.args.nanoseconds) = search rules in
    shows_at c.args.zone.now c.in_ok-moment.moment (unix_epoch +ℤ c.args.nanoseconds) h
