use Rattle.cal_schedule.proofs.RuleWalks.{reached-first, reached-last, reached-next}
use Rattle.cal_schedule.proofs.rule.rule.Rule.last_forward.Goals as goal

pub loop-left-init : goal.loop-left-init
loop-left-init c = reached-first c.args.self.now c.args.front c.args.count c.requires.some c.requires.front

pub returns-in-None : goal.returns-in-None
returns-in-None c =
    reached-last c.args.self.now c.args.front c.args.count c.loop-left.last c.loop-left.left c.in-None.ensures.value c.loop-left.invariant

pub loop-left-preserved : goal.loop-left-preserved
loop-left-preserved c =
    let at = c.loop-left in
    let next = c.in-Some in
    reached-next c.args.self.now c.args.front c.args.count at.last next.day at.left c.loop-left-test.true next.ensures.value at.invariant next.ensures.found.2
