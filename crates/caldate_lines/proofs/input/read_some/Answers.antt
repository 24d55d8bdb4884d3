use Rattle.std.proofs.Common.{rules, subst}
use Rattle.std.proofs.KnownBytes.{Keeps-trans}
use Rattle.caldate_lines.specs.Calls.{Gives}
use Rattle.caldate_lines.specs.Calls.Gives.{ok, again, fails}
use Rattle.caldate_lines.proofs.input.read_some.Goals as goal

pub loop-count-preserved : goal.loop-count-preserved
loop-count-preserved g c = (
  Keeps-trans _ _ _ c.loop-count.invariant.0 (search rules),
  λ outcome end rest. c.loop-count.invariant.1 outcome end
      (subst (λ retries. Gives g.R.Source.read_gives retries c.loop-count.reader outcome end) (search rules)
      (again c.allows.new.self _ _ _ c.in-Err.error _ (search rules) (search rules) rest)),
)

pub returns-in-Ok-clause-gives : goal.returns-in-Ok-clause-gives
returns-in-Ok-clause-gives g c = c.loop-count.invariant.1 _ _ (ok _ _ _ _ c.in-Ok.ensures.gives)

pub returns-in-Err-2-clause-gives : goal.returns-in-Err-2-clause-gives
returns-in-Err-2-clause-gives g c = c.loop-count.invariant.1 _ _ (fails _ _ _ c.in-Err.error (search rules) (search rules))
