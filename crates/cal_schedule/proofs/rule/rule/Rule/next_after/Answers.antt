use Rattle.std.proofs.Common.{◌<◌, arith}
use Rattle.std.proofs.lemmas.Bool.Decides.{nat_tests}
use Rattle.cal_schedule.proofs.Rules.{before_start, next_day, next_found, no_next, none_empty}
use Rattle.cal_schedule.proofs.rule.rule.Rule.next_after.Goals as goal

pub returns-in_default-clause-value : goal.returns-in_default-clause-value
returns-in_default-clause-value c = no_next c.args.self.now c.args.date (omega (arith, c.in_default.ensures))

pub returns-then-lt-clause-value : goal.returns-then-lt-clause-value
returns-then-lt-clause-value c =
    let rule = c.args.self.now in
    let less : c.args.date < rule.start = grind (arith, nat_tests) in
    next_day rule c.args.date rule.start _ (before_start rule _) less c.next_from.ensures

pub returns-then-lt-clause-found : goal.returns-then-lt-clause-found
returns-then-lt-clause-found c =
    let rule = c.args.self.now in
    let less : c.args.date < rule.start = grind (arith, nat_tests) in
    next_found rule c.args.date rule.start _ less c.next_from.ensures

pub returns-clause-value : goal.returns-clause-value
returns-clause-value c =
    let rule = c.args.self.now in
    next_day rule c.args.date c.in-Some.next _ (none_empty rule _ _ (omega arith)) (omega arith) c.next_from-2.ensures

pub returns-clause-found : goal.returns-clause-found
returns-clause-found c = next_found c.args.self.now c.args.date c.in-Some.next _ (omega arith) c.next_from-2.ensures
