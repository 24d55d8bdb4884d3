use Rattle.std.proofs.Common.{length, take, subst}
use Rattle.std.proofs.lemmas.List.{get_or_default}
use Rattle.cal_holidays.specs.Holidays.{AreMore, IsHoliday}
use Rattle.cal_holidays.proofs.HolidayLists.{all_rules, are_more-map, by_rule, one_rule}
use Rattle.cal_holidays.proofs.holidays.add_rules.Goals as goal

pub returns-in-None-clause-full : goal.returns-in-None-clause-full
returns-in-None-clause-full c =
    let a = c.args in
    let rules = a.rules.now in
    let k = c.loop-rule.rule-index in
    let now = take c.loop-rule.count c.loop-rule.days in
    let more =
    are_more-map _ (IsHoliday rules a.first a.last) (length c.loop-rule.days)
    (by_rule rules a.first a.last k _ c.loop-rule-test.true (get_or_default rules k _ _ c.loop-rule-test.true) now c.loop-rule.invariant.each) c.in-None.ensures.full in
    subst (λ m. AreMore (IsHoliday rules a.first a.last) m) c.loop-rule.auto.days more

pub loop-rule-preserved : goal.loop-rule-preserved
loop-rule-preserved c =
    let a = c.args in
    let rules = a.rules.now in
    let k = c.loop-rule.rule-index in
    record {
      most = c.in-Some.ensures.most;
      rising = c.in-Some.ensures.rising;
      each = one_rule rules a.first a.last k _ c.loop-rule-test.true (get_or_default rules k _ _ c.loop-rule-test.true) (take c.loop-rule.count c.loop-rule.days)
          (take c.in-Some.more c.add_rule.new.days) c.loop-rule.invariant.each c.in-Some.ensures.days;
    }

pub returns-clause-value : goal.returns-clause-value
returns-clause-value c =
    let a = c.args in
    all_rules a.rules.now a.first a.last c.loop-rule.rule-index c.loop-rule-test.false (take c.loop-rule.count c.loop-rule.days) c.loop-rule.invariant.rising c.loop-rule.invariant.each
