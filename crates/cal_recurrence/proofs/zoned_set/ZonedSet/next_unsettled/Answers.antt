use Rattle.std.proofs.Common.{inr}
use Rattle.cal_recurrence.proofs.ZonedSearch.{or-settled}
use Rattle.cal_recurrence.proofs.zoned_set.ZonedSet.next_unsettled.Goals as goal

pub returns-then-is_settled : goal.returns-then-is_settled
returns-then-is_settled c = inr (c.is_settled.ensures c.if-is_settled.true)

pub returns-else-is_settled : goal.returns-else-is_settled
returns-else-is_settled c = or-settled c.args.self.now _ c.args.first.now c.args.reading _ c.next_reading.ensures
