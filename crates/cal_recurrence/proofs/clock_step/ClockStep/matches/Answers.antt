use Rattle.std.proofs.Common.{◌≡◌, ◌∙◌, sym, arith}
use Rattle.cal_recurrence.proofs.ClockSearches.{step-with}
use Rattle.cal_recurrence.proofs.clock_step.ClockStep.matches.Goals as goal

pub returns-else-is_empty : goal.returns-else-is_empty
returns-else-is_empty c =
    let none : c.periods_past.result ≡ 0 = omega (arith, c.if-periods_past-eq0.true) in
    step-with c.args.self.now c.args.times.now c.args.start c.args.date c.args.time c.time.result c.has_position.result
    (omega (arith, c.nanoseconds.ensures.value, c.nanoseconds.ensures.max)) (sym c.periods_past.ensures ∙ none) c.time.ensures.value c.has_position.ensures
