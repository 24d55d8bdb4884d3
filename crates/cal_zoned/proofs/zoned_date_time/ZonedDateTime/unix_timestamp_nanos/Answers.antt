use Rattle.std.proofs.Common.{subst}
use Rattle.cal_time.specs.UtcOffset.{IsOffset}
use Rattle.cal_datetime.specs.DateTime.{IsDateTime}
use Rattle.cal_datetime.specs.OffsetDateTime.{instant, IsInstant}
use Rattle.cal_zoned.specs.Zoned.{InZone}
use Rattle.cal_zoned.proofs.Instants.{is_instant, itself, by_view}
use Rattle.cal_zoned.proofs.zoned_date_time.ZonedDateTime.unix_timestamp_nanos.Goals as goal

pub returns-clause-range : goal.returns-clause-range
returns-clause-range c =
    subst (λ (v : InZone). IsInstant (instant v.moment)) (c.self.view_is)
    (is_instant c.self.inside.moment (subst IsDateTime c.local.ensures.value c.local.ensures.range) (subst IsOffset c.offset.ensures.value c.offset.ensures.range))

pub returns-clause-whole : goal.returns-clause-whole
returns-clause-whole c = by_view c.args.self.now (c.self.view_is) (itself c.self.inside.zone.now c.self.inside.moment c.self.invariant)
