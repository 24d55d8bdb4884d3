use Rattle.std.proofs.Common.{arith}
use Rattle.cal_time.specs.Walks.{turn-day, end-turns}
use Rattle.guide.proofs.callers.working_days.Goals as goal

pub overflow_add-count : goal.overflow_add-count
overflow_add-count c =
    let turn = turn-day c.args.from c.args.to _ _ _ c.loop-date.yielded _ c.in-Some.date (cc) c.loop-date.yielded_by c.in-Some.is c.next.ensures.steps in
    omega arith

pub returns : goal.returns
returns c =
    let turns = end-turns c.args.from c.args.to _ _ _ c.loop-date.yielded _ (cc) c.loop-date.yielded_by c.in-None.is c.next.ensures.steps in
    omega arith
