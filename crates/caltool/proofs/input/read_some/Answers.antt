use Rattle.std.proofs.Common.{rules, subst, true}
use Rattle.std.proofs.KnownBytes.{Keeps-trans}
use Rattle.caltool.specs.Calls.{Reads}
use Rattle.caltool.specs.Calls.Calls.{no_more, done, again, fails}
use Rattle.caltool.proofs.input.read_some.Goals as goal

pub loop-count-preserved : goal.loop-count-preserved
loop-count-preserved g c = (
  Keeps-trans _ _ _ c.loop-count.invariant.0 (search rules),
  λ failed left end others. c.loop-count.invariant.1 failed left end
      (subst (λ retries. Reads g.R.Source.read_gives retries c.loop-count.reader failed left end) (search rules)
      (again c.allows.new.self _ _ _ _ _ c.in-Err.error (search rules) (search rules) others)),
)

pub returns-in-Ok-clause-reads : goal.returns-in-Ok-clause-reads
returns-in-Ok-clause-reads g c = c.loop-count.invariant.1 _ _ _ (done _ _ c.in-Ok.count _ _ _ _ tt c.in-Ok.ensures.gives (no_more _ _))

pub returns-in-Err-2-clause-reads : goal.returns-in-Err-2-clause-reads
returns-in-Err-2-clause-reads g c = c.loop-count.invariant.1 _ _ _
    (subst (λ left. Reads g.R.Source.read_gives c.loop-count.retries c.loop-count.reader true left c.read.new.self) (search rules)
    (fails _ _ _ c.in-Err.error (search rules) (search rules)))
