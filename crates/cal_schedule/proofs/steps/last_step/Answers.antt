use Rattle.std.proofs.Common.{arith, ◌∙◌, sym}
use Rattle.std.proofs.lemmas.Int.{ints}
use Rattle.cal_schedule.proofs.Periods.{false_true}
use Rattle.cal_schedule.proofs.StepsInOrder.{first_step, last_one, no_step}
use Rattle.cal_schedule.proofs.steps.last_step.Goals as goal

pub loop-high-init : goal.loop-high-init
loop-high-init c =
    let inside = c.to_julian_day.ensures.in_range in
    record {
      less = omega arith;
      most = omega arith;
      reached = first_step c.args.start c.args.date c.args.period inside c.requires.date;
      past = no_step c.args.start c.args.date c.args.period _ inside c.requires.period (omega (arith, ints));
    }

pub loop-high-preserved-then-is_reached : goal.loop-high-preserved-then-is_reached
loop-high-preserved-then-is_reached c = record {
  less = omega arith;
  most = c.loop-high.invariant.most;
  reached = c.is_reached.ensures.0 c.if-is_reached.true;
  past = c.loop-high.invariant.past;
}

pub loop-high-preserved : goal.loop-high-preserved
loop-high-preserved c = record {
  less = omega arith;
  most = omega arith;
  reached = c.loop-high.invariant.reached;
  past = λ s. false_true (sym c.if-is_reached.false ∙ c.is_reached.ensures.1 s);
}

pub returns-clause-value : goal.returns-clause-value
returns-clause-value c =
    let l = c.loop-high in
    last_one c.args.start c.args.date c.args.period _ _ c.to_julian_day.ensures.in_range c.requires.period (omega (arith, ints)) (omega (arith, ints)) l.invariant.reached l.invariant.past (omega (arith, ints))
