use Rattle.std.proofs.Common.{arith}
use Rattle.cal_schedule.proofs.RulePositions.{last_period, period_end}
use Rattle.cal_schedule.proofs.rule.rule.Rule.period_end.Goals as goal

pub returns-in-Some : goal.returns-in-Some
returns-in-Some c =
    period_end c.args.self.now c.args.date _ c.in-Some.next c.day_number.result (omega (arith, c.from-index.ensures, c.period.ensures.value)) c.day_number.ensures.value c.in-Some.ensures

pub returns-in-None : goal.returns-in-None
returns-in-None c =
    last_period c.args.self.now c.args.date _ _ c.period.ensures.in_range (omega (arith, c.from-index.ensures, c.period.ensures.value)) (omega arith) c.in-None.ensures
