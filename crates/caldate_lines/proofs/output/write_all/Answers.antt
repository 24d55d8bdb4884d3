use Rattle.std.proofs.Common.{Some, rules, subst, sym}
use Rattle.std.proofs.lemmas.List.{take_rest}
use Rattle.caldate_lines.specs.Calls.{Sends}
use Rattle.caldate_lines.specs.Calls.Sends.{some, again, none, fails}
use Rattle.caldate_lines.proofs.Known.{sent_front, sent_kept, sent_more, sent_whole}
use Rattle.caldate_lines.proofs.Calls.{sends_none}
use Rattle.caldate_lines.proofs.output.write_all.Goals as goal

pub returns-in-Ok-eq0-clause-page : goal.returns-in-Ok-eq0-clause-page
returns-in-Ok-eq0-clause-page g c = (tt, sent_front _ _ _ _ _ (search rules) c.loop-rest.invariant.0 (search rules))

pub returns-in-Err-2-clause-page : goal.returns-in-Err-2-clause-page
returns-in-Err-2-clause-page g c = (tt, sent_front _ _ _ _ _ (search rules) c.loop-rest.invariant.0 (search rules))

pub returns-clause-page : goal.returns-clause-page
returns-clause-page g c = sent_whole _ _ _ _ (search rules) c.loop-rest.invariant.0

pub returns-in-Ok-eq0-clause-sends : goal.returns-in-Ok-eq0-clause-sends
returns-in-Ok-eq0-clause-sends g c = c.loop-rest.invariant.1 _ _ (none _ _ _ _ (search rules) (search rules))

pub loop-rest-preserved-in-Ok : goal.loop-rest-preserved-in-Ok
loop-rest-preserved-in-Ok g c = (
  sent_more _ _ _ _ _ _ c.loop-rest.invariant.0 c.in-Ok.ensures.bytes,
  λ outcome end rest. c.loop-rest.invariant.1 outcome end (some _ c.in-Ok.count _ _ _ _ _ (search rules) c.in-Ok.ensures.gives (rw take_rest at rest)),
)

pub loop-rest-preserved : goal.loop-rest-preserved
loop-rest-preserved g c = (
  sent_kept _ _ _ _ _ c.loop-rest.invariant.0 (search rules),
  λ outcome end rest. c.loop-rest.invariant.1 outcome end
      (subst (λ retries. Sends g.W.Sink.write_gives retries c.loop-rest.writer c.loop-rest.rest.now outcome end) (search rules)
      (again c.allows.new.self _ _ _ _ c.in-Err.error _ (search rules) (search rules) rest)),
)

pub returns-in-Err-2-clause-sends : goal.returns-in-Err-2-clause-sends
returns-in-Err-2-clause-sends g c = c.loop-rest.invariant.1 _ _
    (subst (λ kind. Sends g.W.Sink.write_gives c.loop-rest.retries c.loop-rest.writer c.loop-rest.rest.now (Some kind) c.write.new.self) (sym c.kind.ensures)
    (fails _ _ _ _ c.in-Err.error (search rules) (search rules) (search rules)))

pub returns-clause-sends : goal.returns-clause-sends
returns-clause-sends g c = c.loop-rest.invariant.1 _ _ (sends_none _ _ _ _ (search rules))
