use Rattle.std.proofs.Common.{◌≡◌, ◌+◌, ◌<◌, ap, ◌∙◌, sym, refl, arith, true, Some, None}
use Rattle.cal_time.specs.IsoWeekDate.{count_before}
use Rattle.cal_schedule.specs.Ranks.{count-next, count-rises}
use Rattle.cal_schedule.specs.Rule.{passes}
use Rattle.cal_schedule.proofs.RulePositions.{HasNumbers, found-position, on-all, past-until, positions-are, scanned-first, scanned-fails, scanned-numbers, scanned-passes, skip-candidate}
use Rattle.cal_schedule.proofs.rule.rule.Rule.find_position.Goals as goal

pub returns-then-is_position : goal.returns-then-is_position
returns-then-is_position c =
    let rule = c.args.self.now in
    let ahead = c.count_passing-ahead in
    let back = c.count_passing-back in
    on-all rule c.args.day c.requires.start c.day_number.ensures.in_range c.requires.until c.requires.turn c.requires.passes
    (sym (c.is_position.ensures ∙ positions-are rule c.args.day c.period_start-start.result c.period_end-end.result ahead.result back.result c.period_start-start.ensures c.period_end-end.ensures
    (ahead.ensures.value ∙ ap (λ n. count_before (passes rule) (n + 1)) c.day_number.ensures.value) back.ensures.value) ∙ c.if-is_position.true)

pub overflow_sub-after : goal.overflow_sub-after
overflow_sub-after c =
    let rule = c.args.self.now in
    let day = c.args.day in
    omega (
      arith,
      c.count_passing-back.ensures.value,
      count-next (passes rule) day true 1 (sym c.requires.passes) refl,
      count-rises (passes rule) (day + 1) c.period_end-end.result (omega (arith, c.period_end-end.ensures.last)),
    )

pub loop-next-init : goal.loop-next-init
loop-next-init c =
    let rule = c.args.self.now in
    let ahead = c.count_passing-ahead in
    scanned-first rule c.args.day c.period_start-start.result c.period_end-end.result ahead.result c.count_passing-back.result
    (sym c.is_position.ensures ∙ c.if-is_position.false) c.requires.passes c.period_start-start.ensures c.period_end-end.ensures
    (ahead.ensures.value ∙ ap (λ n. count_before (passes rule) (n + 1)) c.day_number.ensures.value) c.count_passing-back.ensures.value

pub returns-then-day_number-end : goal.returns-then-day_number-end
returns-then-day_number-end c =
    let at = c.loop-next in
    skip-candidate c.args.self.now c.args.day at.at (Some c.in-Some-next_candidate.next) at.invariant.low at.invariant.none c.in-Some-next_candidate.ensures

numbers : (c : goal.Then-passes) → HasNumbers c.args.self.now c.loop-next.at c.in-Some-next_candidate.next c.loop-next.ahead c.loop-next.after
numbers c =
    let next = c.in-Some-next_candidate.ensures in
    scanned-numbers c.args.self.now c.args.day c.period_end-end.result c.loop-next.at c.in-Some-next_candidate.next c.loop-next.ahead c.loop-next.after
    c.loop-next.invariant next.0 (omega (arith, c.day_number-in-Some-next_candidate.ensures.value)) next.2 (sym c.passes.ensures ∙ c.if-passes.true)

pub overflow_add-ahead : goal.overflow_add-ahead
overflow_add-ahead c = omega (arith, (numbers c).most, c.in-Some-next_candidate.ensures)

pub returns-then-matches_until : goal.returns-then-matches_until
returns-then-matches_until c =
    let rule = c.args.self.now in
    let next = c.in-Some-next_candidate.ensures in
    let within : c.in-Some-next_candidate.next < c.period_end-end.result = omega (arith, c.day_number-in-Some-next_candidate.ensures.value) in
    let on : passes rule c.in-Some-next_candidate.next ≡ true = sym c.passes.ensures ∙ c.if-passes.true in
    let numbers = scanned-numbers rule c.args.day c.period_end-end.result c.loop-next.at c.in-Some-next_candidate.next c.loop-next.ahead c.loop-next.after
    c.loop-next.invariant next.0 within next.2 on in
    found-position rule c.args.day c.period_end-end.result c.loop-next.at c.in-Some-next_candidate.next c.loop-next.ahead c.loop-next.after
    c.loop-next.invariant next.0 within next.1 next.2 on c.requires.start c.requires.turn
    (sym numbers.is ∙ sym c.is_position-then-passes.ensures ∙ c.if-is_position-2.true) (sym c.matches_until.ensures ∙ c.if-matches_until.true)

pub returns-else-matches_until : goal.returns-else-matches_until
returns-else-matches_until c =
    let at = c.loop-next in
    past-until c.args.self.now c.args.day at.at c.in-Some-next_candidate.next at.invariant.none c.in-Some-next_candidate.ensures.2 (sym c.matches_until.ensures ∙ c.if-matches_until.false)

pub overflow_sub-after-then-passes : goal.overflow_sub-after-then-passes
overflow_sub-after-then-passes c =
    let next = c.in-Some-next_candidate.ensures in
    (scanned-numbers c.args.self.now c.args.day c.period_end-end.result c.loop-next.at c.in-Some-next_candidate.next c.loop-next.ahead c.loop-next.after
    c.loop-next.invariant next.0 (omega (arith, c.day_number-in-Some-next_candidate.ensures.value)) next.2 (sym c.passes.ensures ∙ c.if-passes.true)).some

pub loop-next-preserved-else-is_position-2 : goal.loop-next-preserved-else-is_position-2
loop-next-preserved-else-is_position-2 c =
    let rule = c.args.self.now in
    let next = c.in-Some-next_candidate.ensures in
    let within : c.in-Some-next_candidate.next < c.period_end-end.result = omega (arith, c.day_number-in-Some-next_candidate.ensures.value) in
    let on : passes rule c.in-Some-next_candidate.next ≡ true = sym c.passes.ensures ∙ c.if-passes.true in
    let numbers = scanned-numbers rule c.args.day c.period_end-end.result c.loop-next.at c.in-Some-next_candidate.next c.loop-next.ahead c.loop-next.after
    c.loop-next.invariant next.0 within next.2 on in
    scanned-passes rule c.args.day c.period_end-end.result c.loop-next.at c.in-Some-next_candidate.next c.loop-next.ahead c.loop-next.after
    c.loop-next.invariant next.0 within next.2 on (sym numbers.is ∙ sym c.is_position-then-passes.ensures ∙ c.if-is_position-2.false)

pub loop-next-preserved : goal.loop-next-preserved
loop-next-preserved c =
    let next = c.in-Some-next_candidate.ensures in
    scanned-fails c.args.self.now c.args.day c.period_end-end.result c.loop-next.at c.in-Some-next_candidate.next c.loop-next.ahead c.loop-next.after
    c.loop-next.invariant next.0 (omega (arith, c.day_number-in-Some-next_candidate.ensures.value)) next.2 (sym c.passes.ensures ∙ c.if-passes.false)

pub returns : goal.returns
returns c =
    let at = c.loop-next in
    skip-candidate c.args.self.now c.args.day at.at None at.invariant.low at.invariant.none c.in_default-next_candidate.ensures
