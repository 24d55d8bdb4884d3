use Rattle.std.proofs.Common.{subst}
use Rattle.cal_time.specs.UtcOffset.{IsOffset}
use Rattle.cal_datetime.specs.DateTime.{IsDateTime}
use Rattle.cal_zoned.proofs.Instants.{is_instant}
use Rattle.cal_zoned.proofs.unchecked.nanoseconds_of.Goals as goal

pub returns-clause-range : goal.returns-clause-range
returns-clause-range c = is_instant c.args.moment (subst IsDateTime c.local.ensures.value c.local.ensures.range) (subst IsOffset c.offset.ensures.value c.offset.ensures.range)
