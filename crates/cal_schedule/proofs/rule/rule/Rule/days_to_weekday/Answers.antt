use Rattle.std.proofs.Common.{◌≡◌, ◌+◌, ◌%◌, ◌∙◌, sym, ap, arith}
use Rattle.cal_time.specs.Date.{weekday_at}
use Rattle.cal_schedule.specs.RuleSearch.{may_fall_on}
use Rattle.cal_schedule.proofs.Rules.{takes-further}
use Rattle.cal_schedule.proofs.rule.rule.Rule.days_to_weekday.Goals as goal

pub loop-days-preserved : goal.loop-days-preserved
loop-days-preserved c =
    let rule = c.args.self.now in
    let days = c.loop-days.days in
    let at : weekday_at c.args.day ≡ c.place.result = omega (arith, c.weekday.ensures.value, c.place.ensures) in
    record {
      least = omega arith;
      most = omega (arith, c.loop-days-test.true);
      none = takes-further rule c.args.day days c.loop-days.invariant.none
          (ap (λ index. may_fall_on rule ((index + days) % 7)) at ∙ sym c.may_fall_on.ensures ∙ c.if-may_fall_on.false);
    }
