use Rattle.std.proofs.Common.{◌≡◌, ◌+◌, ◌%◌, ◌∙◌, sym, ap, arith}
use Rattle.cal_time.specs.Date.{weekday_at}
use Rattle.cal_time.specs.IsoWeekDate.{count_before}
use Rattle.cal_time.specs.Laws.{weekday_at-is}
use Rattle.cal_schedule.specs.Ranks.{bit-most, count-next}
use Rattle.cal_schedule.specs.Rule.{passes}
use Rattle.cal_schedule.specs.RuleSearch.{may_fall_on}
use Rattle.cal_schedule.proofs.rule.rule.Rule.count_weekdays.Goals as goal

pub loop-index-preserved : goal.loop-index-preserved
loop-index-preserved c =
    let rule = c.args.self.now in
    let day = c.args.from + c.loop-index.index in
    let at : (c.place-first.result + c.loop-index.index) % 7 ≡ weekday_at day = omega (arith, c.weekday.ensures.value, c.place-first.ensures, weekday_at-is c.args.from, weekday_at-is day) in
    let bit = c.may_fall_on.ensures ∙ ap (may_fall_on rule) at ∙ sym (c.requires.weekdays day) in
    let more = count-next (passes rule) day c.may_fall_on.result c.from-count.result bit c.from-count.ensures in
    let next : c.args.from + (c.loop-index.index + 1) ≡ day + 1 = omega arith in
    record {
      counted = omega (arith, c.loop-index.invariant.counted, more, ap (count_before (passes rule)) next);
      most = omega (arith, c.loop-index.invariant.most, bit-most c.may_fall_on.result c.from-count.result c.from-count.ensures);
    }
