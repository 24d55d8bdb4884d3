use Rattle.std.proofs.Common.{subst}
use Rattle.cal_time.specs.UtcOffset.{IsOffset}
use Rattle.cal_datetime.specs.DateTime.{IsDateTime}
use Rattle.cal_recurrence.proofs.ZonedSearch.{in-range}
use Rattle.cal_recurrence.proofs.zoned_set.nanoseconds.Goals as goal

pub returns-clause-range : goal.returns-clause-range
returns-clause-range c = in-range c.args.moment (subst IsDateTime c.local.ensures.value c.local.ensures.range) (subst IsOffset c.offset.ensures.value c.offset.ensures.range)
