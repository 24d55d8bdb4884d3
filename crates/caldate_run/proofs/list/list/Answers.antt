use Rattle.std.proofs.Common.{◌≡◌, ◌+◌, ◌++◌, ◌∷◌, [], ◌∙◌, Err, ap, arith, refl, subst, sym}
use Rattle.std.specs.Prelude.{is_ok}
use Rattle.caldate_lines.specs.Calls.{Writes, write_failure}
use Rattle.caldate_lines.specs.Outputs.{HasTaken, WritesPage}
use Rattle.caldate_lines.proofs.Outputs.{new_output, taken_all}
use Rattle.caldate_args.specs.Lists.{AreListed, line_of}
use Rattle.caldate_run.proofs.Listed.{lists, no_days, one_more}
use Rattle.caldate_run.proofs.list.list.Goals as goal

pub loop-day-init : goal.loop-day-init
loop-day-init g c = (([], new_output g.W.Sink.contents g.W.Sink.write_gives _ c.new-output.result c.new-output.ensures.buffer c.new-output.ensures.outcome, λ all items are. (items, are, refl)), omega arith)

pub loop-day-preserved : goal.loop-day-preserved
loop-day-preserved g c =
    let (given, outputs, follows) = c.loop-day.invariant.0 in
    let listing = c.args.listing.now in
    let line : c.as_bytes.result.now ++ 10 ∷ [] ≡ line_of c.in-Some.day = ap (λ text. text ++ 10 ∷ []) (c.as_bytes.ensures.value ∙ c.text.ensures.value) in (
      (
        given ++ (c.as_bytes.result.now ++ 10 ∷ []),
        c.push_line.ensures.given given _ outputs,
        one_more line_of (AreListed listing) 0 c.loop-day.count _ given (c.as_bytes.result.now ++ 10 ∷ []) c.in-Some.day line (λ all items are. (c.in-Some.ensures.day, are)) follows,
      ),
      omega (arith, c.in-Some.ensures.near, c.requires.1),
    )

pub returns-in-Err-clause-lists : goal.returns-in-Err-clause-lists
returns-in-Err-clause-lists g c =
    let (given, outputs, follows) = c.loop-day.invariant.0 in
    let line : c.as_bytes.result.now ++ 10 ∷ [] ≡ line_of c.in-Some.day = ap (λ text. text ++ 10 ∷ []) (c.as_bytes.ensures.value ∙ c.text.ensures.value) in
    let taken = (c.push_line.ensures.given given _ outputs).taken in
    lists line_of (AreListed c.args.listing.now) 0 (c.loop-day.count + c.args.listing.now.step.every) (given ++ (c.as_bytes.result.now ++ 10 ∷ [])) (Err c.in-Err.error) (g.W.Sink.contents c.args.writer.now) (g.W.Sink.contents c.push_line.new.writer) tt
    (one_more line_of (AreListed c.args.listing.now) 0 c.loop-day.count (c.loop-day.count + c.args.listing.now.step.every) given (c.as_bytes.result.now ++ 10 ∷ []) c.in-Some.day line (λ all items are. (c.in-Some.ensures.day, are)) follows)
    (subst (λ outcome. HasTaken outcome (given ++ (c.as_bytes.result.now ++ 10 ∷ [])) c.push_line.new.self.buffer (g.W.Sink.contents c.args.writer.now) (g.W.Sink.contents c.push_line.new.writer)) (sym c.push_line.ensures.value ∙ c.in-Err.is) taken)

pub returns-in-Err-clause-writes : goal.returns-in-Err-clause-writes
returns-in-Err-clause-writes g c =
    let (given, outputs, follows) = c.loop-day.invariant.0 in
    subst (λ outcome. Writes g.W.Sink.write_gives c.args.writer.now (write_failure outcome) c.push_line.new.writer) (sym c.push_line.ensures.value ∙ c.in-Err.is) (c.push_line.ensures.given given _ outputs).writes

pub returns-clause-lists : goal.returns-clause-lists
returns-clause-lists g c =
    let (given, outputs, follows) = c.loop-day.invariant.0 in
    let outputs = c.finish.ensures.passes_on given _ outputs in
    lists line_of (AreListed c.args.listing.now) 0 c.loop-day.count given c.finish.result _ _ (no_days c.args.listing.now c.loop-day.count (is_ok c.finish.result) c.in_default.ensures.day) follows
    (subst (λ outcome. WritesPage given outcome (g.W.Sink.contents c.args.writer.now) (g.W.Sink.contents c.finish.new.writer)) (sym c.finish.ensures.value) (taken_all c.finish.new.self.outcome given c.finish.new.self.buffer _ _ c.finish.ensures.none outputs.taken))

pub returns-clause-writes : goal.returns-clause-writes
returns-clause-writes g c =
    let (given, outputs, follows) = c.loop-day.invariant.0 in
    subst (λ outcome. Writes g.W.Sink.write_gives c.args.writer.now (write_failure outcome) c.finish.new.writer) (sym c.finish.ensures.value) (c.finish.ensures.passes_on given _ outputs).writes
