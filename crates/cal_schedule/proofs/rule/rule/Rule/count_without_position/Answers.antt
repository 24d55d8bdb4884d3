use Rattle.std.proofs.Common.{◌+◌, ◌-◌, ◌∙◌, sym, arith}
use Rattle.cal_schedule.proofs.PositionSkips.{one_more_none}
use Rattle.cal_schedule.proofs.rule.rule.Rule.count_without_position.Goals as goal

pub loop-days-preserved : goal.loop-days-preserved
loop-days-preserved c =
    let days = c.loop-days.days in
    record {
      less = c.loop-days-test.true;
      none = one_more_none c.args.self.now c.args.ahead c.args.back days (c.args.ahead + days + 1) (c.args.back - days - 1) (omega arith) (omega arith)
          (sym c.is_position.ensures ∙ c.if-not-is_position.true) c.loop-days.invariant.none;
    }
