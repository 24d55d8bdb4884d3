use Rattle.std.proofs.Common.{arith, ◌∙◌, sym}
use Rattle.std.proofs.lemmas.Int.{ints}
use Rattle.cal_schedule.proofs.Periods.{false_true}
use Rattle.cal_zoned.proofs.StepsInOrder.{all_later, first_step}
use Rattle.cal_zoned.proofs.steps.last_step.Goals as goal

pub loop-high-init : goal.loop-high-init
loop-high-init c = record {
  less = omega arith;
  most = omega arith;
  reached = first_step c.args.start c.args.reading c.args.period c.date.ensures.in_range c.requires.start;
  past = λ k least less. absurd (omega (arith, ints, least, less));
}

pub loop-high-preserved-then-is_reached : goal.loop-high-preserved-then-is_reached
loop-high-preserved-then-is_reached c = record {
  less = omega arith;
  most = c.loop-high.invariant.most;
  reached = c.is_reached.ensures.0 c.if-is_reached.true;
  past = c.loop-high.invariant.past;
}

pub loop-high-preserved : goal.loop-high-preserved
loop-high-preserved c = record {
  less = omega arith;
  most = omega arith;
  reached = c.loop-high.invariant.reached;
  past = all_later c.args.start c.args.reading c.args.period _ c.date.ensures.in_range c.requires.period (omega (arith, ints)) (λ s. false_true (sym c.if-is_reached.false ∙ c.is_reached.ensures.1 s));
}

pub returns-clause-value : goal.returns-clause-value
returns-clause-value c =
    let l = c.loop-high.invariant in
    record { holds = l.reached; fits = let less = l.less in let most = l.most in omega (arith, ints, less, most); last = λ k more less. l.past k (omega (arith, ints, more)) less }
