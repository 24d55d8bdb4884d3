use Rattle.std.proofs.Common.{rules}
use Rattle.cal_tzif.proofs.RuleTexts.{rule_is}
use Rattle.cal_tzif.proofs.footer.parse_rule.Goals as goal

pub returns-in-Some-clause-value : goal.returns-in-Some-clause-value
returns-in-Some-clause-value c =
    let d = c.in_ok-daylight.ensures.value in
    let b = c.in_ok-begin.ensures.value in
    let e = c.in_ok-end.ensures.value in
    rule_is c.args.text.now c.args.at c.args.standard c.in_ok-daylight.daylight c.in_ok-begin.begin c.in_ok-end.end c.in_ok-daylight.next c.in_ok-begin.next c.in_ok-end.next c.in-Some.rule
    (record { has = d.0; kind_is = d.1; p_is = d.2; begins = b.0; begin_is = b.1; q_is = b.2; ends = e.0; end_is = e.1; r_is = e.2; whole = search rules })
    c.in-Some.ensures.some c.in-Some.ensures.apart
