use Rattle.std.proofs.Common.{◌<◌, sym, subst, arith}
use Rattle.std.proofs.lemmas.Bool.Decides.{nat_tests}
use Rattle.cal_time.specs.Date.{last_day}
use Rattle.cal_schedule.specs.RuleSearch.{IsLastOfWalk}
use Rattle.cal_schedule.proofs.RulePositions.{IsOn-is_occurrence}
use Rattle.cal_schedule.proofs.RuleWalks.{last_back}
use Rattle.cal_schedule.proofs.rule.rule.Rule.last_of.Goals as goal

pub last_back-requires-clause-start : goal.last_back-requires-clause-start
last_back-requires-clause-start c = (IsOn-is_occurrence c.args.self.now c.args.front c.requires.front).start

pub returns-then-from-gt-LAST_DAY : goal.returns-then-from-gt-LAST_DAY
returns-then-from-gt-LAST_DAY c =
    let rule = c.args.self.now in
    let front = c.args.front in
    let all : last_day < c.args.count = grind (arith, nat_tests, c.from.ensures) in
    subst (IsLastOfWalk rule front c.args.count) (sym c.unwrap_or.ensures)
    (last_back rule front c.end_before-end.result c.args.count c.last_back.result c.last_back.ensures.in_range c.requires.front all c.end_before-end.ensures c.last_back.ensures.value)
