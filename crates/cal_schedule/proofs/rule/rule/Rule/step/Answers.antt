use Rattle.std.proofs.Common.{◌∙◌, ◌<◌, sym, arith}
use Rattle.std.proofs.lemmas.Bool.Decides.{nat_tests}
use Rattle.cal_schedule.specs.Rule.{periods_past}
use Rattle.cal_schedule.proofs.RulePositions.{no-positions, on-all, skip-off}
use Rattle.cal_schedule.proofs.Rules.{skip-turn, skip-until}
use Rattle.cal_schedule.proofs.rule.rule.Rule.step.Goals as goal

pub returns-then-not-matches_until : goal.returns-then-not-matches_until
returns-then-not-matches_until c = skip-until c.args.self.now c.args.day (sym c.matches_until.ensures ∙ c.if-not-matches_until.true)

pub returns-then-past-ne0 : goal.returns-then-past-ne0
returns-then-past-ne0 c =
    let past = c.periods_past-past.ensures in
    let turn = c.period-turn.ensures in
    let some : 0 < periods_past c.args.self.now c.args.day = grind (arith, nat_tests, past.value) in
    skip-turn c.args.self.now c.args.day _ c.first_of_period.result c.requires.start some (omega (arith, past.value, past.range, turn.value)) (omega (arith, past.value, past.range)) c.first_of_period.ensures

pub returns-then-not-passes : goal.returns-then-not-passes
returns-then-not-passes c = skip-off c.args.self.now c.args.day c.next_candidate.result (sym c.passes.ensures ∙ c.if-not-passes.true) c.next_candidate.ensures

pub returns-then-is_empty : goal.returns-then-is_empty
returns-then-is_empty c =
    let rule = c.args.self.now in
    let past = c.periods_past-past.ensures in
    on-all rule c.args.day c.requires.start c.requires.range (sym c.matches_until.ensures ∙ c.if-not-matches_until.false) (omega (arith, past.value))
    (sym c.passes.ensures ∙ c.if-not-passes.false) (sym (no-positions rule c.args.day c.if-is_empty.ensures))
