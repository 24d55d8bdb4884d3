use Rattle.std.proofs.Common.{◌≡◌, ◌∷◌, ◌++◌, ◌<◌, ◌∙◌, [], sym, ap, arith, length, length-append, take}
use Rattle.std.proofs.lemmas.Bool.{eqb-false, eqb-true}
use Rattle.cal_schedule.specs.Rule.{occurrences_between, occurrences_left}
use Rattle.cal_schedule.proofs.RuleWalks.{left-sooner, none-before, on-sooner}
use Rattle.cal_schedule.proofs.rule.iter.RuleDaysDoubleEndedIterator.next_back.Goals.{then-eq, else-eq}
use Rattle.cal_schedule.proofs.rule.iter.RuleDaysDoubleEndedIterator.next_back.Goals as goal

pub invariant_of-self-else-eq : goal.invariant_of-self-else-eq
invariant_of-self-else-eq c =
    let walk = c.self.inside in
    let less : c.in_ok-front.front < c.last_of-last.result = omega (arith, c.last_of-last.ensures.low, eqb-false _ _ (sym c.eq.ensures ∙ c.if-eq.false)) in
    on-sooner walk.rule c.in_ok-front.front c.last_of-last.result walk.front c.previous_day-self-inside.result c.in_ok-front.was
    c.self.invariant c.previous_day-self-inside.ensures.value less

pub returns-clause-steps : goal.returns-clause-steps
returns-clause-steps c =
    let walk = c.self.inside in
    let front = c.in_ok-front.front in
    let last = c.last_of-last in
    let others : occurrences_between walk.rule front last.result ≡ c.if-eq.self =
    elim c.if-eq.branch as (λ _. occurrences_between walk.rule front last.result ≡ c.if-eq.self) [
      | then-eq w ↦
          let same : last.result ≡ front = eqb-true last.result front (sym c.eq.ensures ∙ w.if-eq.true) in
          none-before walk.rule front last.result walk.left same ∙ sym w.self-is
      | else-eq w ↦
          let less : front < last.result = omega (arith, last.ensures.low, eqb-false last.result front (sym c.eq.ensures ∙ w.if-eq.false)) in
          let before = w.previous_day-self-inside in
          left-sooner walk.rule front last.result walk.front before.result c.in_ok-front.was c.self.invariant before.ensures.value less
          last.ensures.passes before.ensures.in_range ∙ sym w.self-is
    ] in
    sym c.self.view_is ∙ ap (λ day. take walk.left (occurrences_left walk.rule day)) c.in_ok-front.was ∙ last.ensures.days
    ∙ ap (λ days. days ++ last.result ∷ []) others

pub returns-clause-goes : goal.returns-clause-goes
returns-clause-goes c =
    let count = simp length-append at (ap length (returns-clause-steps c)) in
    record { on = λ _. (tt, tt, omega (arith, count)); keeps = tt; rests = λ _. tt }
