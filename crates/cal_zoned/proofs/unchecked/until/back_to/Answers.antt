use Rattle.std.proofs.Common.{◌<ℤ◌, rules}
use Rattle.cal_datetime.specs.OffsetDateTime.{instant}
use Rattle.cal_zoned.proofs.UntilInZone.{is_before, not_back_to}
use Rattle.cal_zoned.proofs.unchecked.until.back_to.Goals as goal

pub returns-else-le-clause-none : goal.returns-else-le-clause-none
returns-else-le-clause-none c = λ order.
    let past : instant c.in-Ok.there <ℤ instant c.args.to = search rules in
    is_before c.args.policy c.args.zone.now order c.args.from c.args.to c.in-Ok.there c.args.date (c.in-Ok.ensures order) past

pub returns-in-Err-clause-none : goal.returns-in-Err-clause-none
returns-in-Err-clause-none c = λ order.
    not_back_to c.args.policy c.args.zone.now order c.args.from c.args.to c.args.date c.in-Err.field-0 (c.in-Err.ensures order)
