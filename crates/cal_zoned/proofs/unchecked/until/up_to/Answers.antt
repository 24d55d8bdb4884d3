use Rattle.std.proofs.Common.{◌<ℤ◌, rules}
use Rattle.cal_datetime.specs.OffsetDateTime.{instant}
use Rattle.cal_zoned.proofs.UntilInZone.{is_past, not_up_to}
use Rattle.cal_zoned.proofs.unchecked.until.up_to.Goals as goal

pub returns-else-le-clause-none : goal.returns-else-le-clause-none
returns-else-le-clause-none c = λ order.
    let past : instant c.args.to <ℤ instant c.in-Ok.there = search rules in
    is_past c.args.policy c.args.zone.now order c.args.from c.args.to c.in-Ok.there c.args.date (c.in-Ok.ensures order) past

pub returns-in-Err-clause-none : goal.returns-in-Err-clause-none
returns-in-Err-clause-none c = λ order.
    not_up_to c.args.policy c.args.zone.now order c.args.from c.args.to c.args.date c.in-Err.field-0 (c.in-Err.ensures order)
