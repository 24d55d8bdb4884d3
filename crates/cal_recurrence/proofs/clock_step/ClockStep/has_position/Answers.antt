use Rattle.std.proofs.Common.{refl, ◌∙◌, ap, arith}
use Rattle.cal_schedule.specs.Rule.{allows, is_nth}
use Rattle.cal_recurrence.specs.ClockPeriods.{rank_of}
use Rattle.cal_recurrence.proofs.ClockSearches.{ranks-of}
use Rattle.cal_recurrence.proofs.clock_step.ClockStep.has_position.Goals as goal

pub overflow_sub-ahead : goal.overflow_sub-ahead
overflow_sub-ahead c =
    let u = c.args.self.now.unit in
    (ranks-of u c.args.times.now c.args.own c.args.time c.nanoseconds-at.result _ c.count_before-before.result c.count_before.result _ _
    (omega (arith, c.nanoseconds-at.ensures.value, c.nanoseconds-at.ensures.max)) c.nanoseconds-at.ensures.value c.seconds-size.ensures.value c.count_before-before.ensures.value c.count_before.ensures.value refl refl).0

pub overflow_sub-back : goal.overflow_sub-back
overflow_sub-back c =
    let u = c.args.self.now.unit in
    (ranks-of u c.args.times.now c.args.own c.args.time c.nanoseconds-at.result _ c.count_before-before.result c.count_before.result c.count_before-2.result c.count_before-3.result
    (omega (arith, c.nanoseconds-at.ensures.value, c.nanoseconds-at.ensures.max)) c.nanoseconds-at.ensures.value c.seconds-size.ensures.value c.count_before-before.ensures.value c.count_before.ensures.value
    c.count_before-2.ensures.value c.count_before-3.ensures.value).1

pub returns : goal.returns
returns c =
    let u = c.args.self.now.unit in
    let ps = c.args.self.now.positions in
    let ranks = (ranks-of u c.args.times.now c.args.own c.args.time c.nanoseconds-at.result _ c.count_before-before.result c.count_before.result c.count_before-2.result c.count_before-3.result
    (omega (arith, c.nanoseconds-at.ensures.value, c.nanoseconds-at.ensures.max)) c.nanoseconds-at.ensures.value c.seconds-size.ensures.value c.count_before-before.ensures.value c.count_before.ensures.value
    c.count_before-2.ensures.value c.count_before-3.ensures.value).2 in
    c.allows_position.ensures
    ∙ ap (λ a. allows (λ k. is_nth k a c.from-2.result) ps) (c.from.ensures ∙ ranks.ahead_is)
    ∙ ap (λ b. allows (λ k. is_nth k (rank_of u c.args.times.now c.args.own c.args.time) b) ps) (c.from-2.ensures ∙ ranks.back_is)
