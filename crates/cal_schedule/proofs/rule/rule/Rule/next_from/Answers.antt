use Rattle.std.proofs.Common.{arith}
use Rattle.cal_schedule.proofs.Rules.{next_joined, none_until_rest}
use Rattle.cal_schedule.proofs.rule.rule.Rule.next_from.Goals as goal

pub returns : goal.returns
returns c =
    let rule = c.args.self.now in
    let first = c.args.first in
    let rest = c.in-Some-date_from_number.rest in
    let none = none_until_rest rule first _ rest (omega (arith, c.interval_or_1.ensures)) c.requires
    (omega (arith, c.day_number.ensures.value, c.from-number.ensures, c.from.ensures, c.interval_or_1.ensures.value)) c.in_default.ensures
    (omega (arith, c.max.ensures, c.in-Some-date_from_number.ensures, c.day_number.ensures.value, c.from-number.ensures)) in
    next_joined rule first rest _ c.next_before-2.result (omega arith) none (omega arith) c.next_before-2.ensures
