use Rattle.std.proofs.Common.{◌≡◌, ◌+◌, ◌++◌, ◌∷◌, [], ◌∙◌, Err, None, Some, ap, arith, refl, subst, sym}
use Rattle.std.specs.Prelude.{is_ok}
use Rattle.caldate_lines.specs.Calls.{Writes, write_failure}
use Rattle.caldate_lines.specs.Outputs.{HasTaken, WritesPage}
use Rattle.caldate_lines.proofs.Outputs.{new_output, taken_all}
use Rattle.caldate_run.specs.Recurring.{moment_line}
use Rattle.caldate_run.specs.Steps.AreSteps.{ended, listed, skipped}
use Rattle.caldate_run.proofs.Listed.{lists, one_more}
use Rattle.caldate_run.proofs.MomentSteps.{AreStepsFrom, no_steps}
use Rattle.caldate_run.proofs.list.moments.list_moments.Goals as goal

pub loop-moment-init : goal.loop-moment-init
loop-moment-init g c = (([], new_output g.W.Sink.contents g.W.Sink.write_gives _ c.new-output.result c.new-output.ensures.buffer c.new-output.ensures.outcome, λ all items are. (items, are, refl)), omega arith)

pub loop-moment-preserved-in-Ok : goal.loop-moment-preserved-in-Ok
loop-moment-preserved-in-Ok g c =
    let (given, outputs, follows) = c.loop-moment.invariant.0 in
    let moment = c.in-Some.moment in
    let bytes = c.as_bytes.result.now ++ 10 ∷ [] in
    let line : bytes ≡ moment_line moment = ap (λ text. text ++ 10 ∷ []) (c.as_bytes.ensures.value ∙ c.rfc3339_or_unix_text.ensures.text) in
    let later = sym c.is_later.ensures ∙ c.if-is_later.true in (
      (
        given ++ bytes,
        c.push_line.ensures.given given _ outputs,
        one_more moment_line (AreStepsFrom c.args.moments.now) (None, 0) (c.loop-moment.before, c.loop-moment.count) (Some moment, c.loop-moment.count + c.args.moments.now.step.every) given bytes moment line
            (λ all items are. listed c.loop-moment.before c.loop-moment.count moment items c.in-Some.ensures.step later are) follows,
      ),
      omega (arith, c.in-Some.ensures.near, c.requires.1),
    )

pub loop-moment-preserved : goal.loop-moment-preserved
loop-moment-preserved g c =
    let (given, outputs, follows) = c.loop-moment.invariant.0 in
    let late = sym c.is_later.ensures ∙ c.if-is_later.false in (
      (given, outputs, λ all items are. follows all items (skipped c.loop-moment.before c.loop-moment.count c.in-Some.moment items c.in-Some.ensures.step late are)),
      omega (arith, c.in-Some.ensures.near, c.requires.1),
    )

pub returns-in-Err-clause-lists : goal.returns-in-Err-clause-lists
returns-in-Err-clause-lists g c =
    let (given, outputs, follows) = c.loop-moment.invariant.0 in
    let moment = c.in-Some.moment in
    let bytes = c.as_bytes.result.now ++ 10 ∷ [] in
    let line : bytes ≡ moment_line moment = ap (λ text. text ++ 10 ∷ []) (c.as_bytes.ensures.value ∙ c.rfc3339_or_unix_text.ensures.text) in
    let later = sym c.is_later.ensures ∙ c.if-is_later.true in
    let next = c.loop-moment.count + c.args.moments.now.step.every in
    lists moment_line (AreStepsFrom c.args.moments.now) (None, 0) (Some moment, next) (given ++ bytes) (Err c.in-Err.error) (g.W.Sink.contents c.args.writer.now) (g.W.Sink.contents c.push_line.new.writer) (ended (Some moment) next tt)
    (one_more moment_line (AreStepsFrom c.args.moments.now) (None, 0) (c.loop-moment.before, c.loop-moment.count) (Some moment, next) given bytes moment line
    (λ all items are. listed c.loop-moment.before c.loop-moment.count moment items c.in-Some.ensures.step later are) follows)
    (subst (λ outcome. HasTaken outcome (given ++ bytes) c.push_line.new.self.buffer (g.W.Sink.contents c.args.writer.now) (g.W.Sink.contents c.push_line.new.writer)) (sym c.push_line.ensures.value ∙ c.in-Err.is)
    (c.push_line.ensures.given given _ outputs).taken)

pub returns-in-Err-clause-writes : goal.returns-in-Err-clause-writes
returns-in-Err-clause-writes g c =
    let (given, outputs, follows) = c.loop-moment.invariant.0 in
    subst (λ outcome. Writes g.W.Sink.write_gives c.args.writer.now (write_failure outcome) c.push_line.new.writer) (sym c.push_line.ensures.value ∙ c.in-Err.is) (c.push_line.ensures.given given _ outputs).writes

pub returns-clause-lists : goal.returns-clause-lists
returns-clause-lists g c =
    let (given, outputs, follows) = c.loop-moment.invariant.0 in
    let outputs = c.finish.ensures.passes_on given _ outputs in
    lists moment_line (AreStepsFrom c.args.moments.now) (None, 0) (c.loop-moment.before, c.loop-moment.count) given c.finish.result _ _
    (no_steps c.args.moments.now c.loop-moment.before c.loop-moment.count (is_ok c.finish.result) c.in_default.ensures.step) follows
    (subst (λ outcome. WritesPage given outcome (g.W.Sink.contents c.args.writer.now) (g.W.Sink.contents c.finish.new.writer)) (sym c.finish.ensures.value) (taken_all c.finish.new.self.outcome given c.finish.new.self.buffer _ _ c.finish.ensures.none outputs.taken))

pub returns-clause-writes : goal.returns-clause-writes
returns-clause-writes g c =
    let (given, outputs, follows) = c.loop-moment.invariant.0 in
    subst (λ outcome. Writes g.W.Sink.write_gives c.args.writer.now (write_failure outcome) c.finish.new.writer) (sym c.finish.ensures.value) (c.finish.ensures.passes_on given _ outputs).writes
