use Rattle.std.proofs.Common.{rules, arith, subst, true}
use Rattle.caltool.specs.Calls.{Writes}
use Rattle.caltool.specs.Calls.Calls.{no_more, done, again, too_few, fails}
use Rattle.caltool.proofs.Known.{taken_kept, taken_more}
use Rattle.caltool.proofs.output.write_all.Goals as goal

pub returns-in-Ok-eq0-clause-writes : goal.returns-in-Ok-eq0-clause-writes
returns-in-Ok-eq0-clause-writes g c = c.loop-rest.invariant.1 _ _ _ (too_few _ 0 _ _ (λ h. omega arith) (c.loop-rest.rest.now, search rules, search rules))

pub loop-rest-preserved-in-Ok : goal.loop-rest-preserved-in-Ok
loop-rest-preserved-in-Ok g c = (
  taken_more _ _ _ _ _ _ c.loop-rest.invariant.0 c.in-Ok.ensures.bytes,
  λ failed left end others. c.loop-rest.invariant.1 failed left end
      (done _ _ c.in-Ok.count _ _ _ _ (search rules) (c.loop-rest.rest.now, search rules, c.in-Ok.ensures.gives) others),
)

pub loop-rest-preserved : goal.loop-rest-preserved
loop-rest-preserved g c = (
  taken_kept _ _ _ _ _ c.loop-rest.invariant.0 (search rules),
  λ failed left end others. c.loop-rest.invariant.1 failed left end
      (subst (λ retries. Writes g.W.Sink.write_gives retries c.loop-rest.writer failed left end) (search rules)
      (again c.allows.new.self _ _ _ _ _ c.in-Err.error (search rules) (c.loop-rest.rest.now, search rules, search rules) others)),
)

pub returns-in-Err-2-clause-writes : goal.returns-in-Err-2-clause-writes
returns-in-Err-2-clause-writes g c = c.loop-rest.invariant.1 _ _ _
    (subst (λ left. Writes g.W.Sink.write_gives c.loop-rest.retries c.loop-rest.writer true left c.write.new.self) (search rules)
    (fails _ _ _ c.in-Err.error (search rules) (c.loop-rest.rest.now, search rules, search rules)))

pub returns-clause-writes : goal.returns-clause-writes
returns-clause-writes g c = c.loop-rest.invariant.1 _ _ _ (no_more _ _)
