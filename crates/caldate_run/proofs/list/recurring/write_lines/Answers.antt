use Rattle.std.proofs.Common.{◌≡◌, ◌++◌, ◌∷◌, [], ◌∙◌, ℕ, List, Err, ap, append_assoc, arith, length, length-append, refl, subst, sym}
use Rattle.std.proofs.lemmas.List.{append-nil}
use Rattle.caldate_lines.specs.Calls.{Writes, write_failure}
use Rattle.caldate_lines.specs.Outputs.{HasTaken, WritesPage}
use Rattle.caldate_lines.proofs.Outputs.{new_output, page_longer, taken_all}
use Rattle.caldate_run.specs.Recurring.{lines_left}
use Rattle.caldate_run.proofs.list.recurring.write_lines.Goals as goal

-- one text more
more : (all given text bytes old left : List ℕ) → all ≡ given ++ old → old ≡ text ++ 10 ∷ left → bytes ≡ text → all ≡ (given ++ (bytes ++ 10 ∷ [])) ++ left
more all given text bytes old left e next same =
    e ∙ ap (λ l. given ++ l) (next ∙ ap (λ t. t ++ 10 ∷ left) (sym same) ∙ sym (append_assoc bytes (10 ∷ []) left)) ∙ sym (append_assoc given (bytes ++ 10 ∷ []) left)

pub loop-text-init : goal.loop-text-init
loop-text-init g c = ([], new_output g.W.Sink.contents g.W.Sink.write_gives _ c.new-output.result c.new-output.ensures.buffer c.new-output.ensures.outcome, refl)

pub loop-text-preserved : goal.loop-text-preserved
loop-text-preserved g c =
    let (given, outputs, e) = c.loop-text.invariant in (
      given ++ (c.as_bytes.result.now ++ 10 ∷ []),
      c.push_line.ensures.given given _ outputs,
      more _ given c.in-Some.text c.as_bytes.result.now _ _ e c.in-Some.ensures.next c.as_bytes.ensures.value,
    )

pub loop-text-smaller : goal.loop-text-smaller
loop-text-smaller g c = omega (arith, ap length c.in-Some.ensures.next, length-append c.in-Some.text (10 ∷ lines_left c.next_text.new.self))

pub returns-in-Err-clause-lines : goal.returns-in-Err-clause-lines
returns-in-Err-clause-lines g c =
    let (given, outputs, e) = c.loop-text.invariant in
    let bytes = given ++ (c.as_bytes.result.now ++ 10 ∷ []) in
    page_longer bytes (lines_left c.next_text.new.self) _ (Err c.in-Err.error) (g.W.Sink.contents c.args.writer.now) (g.W.Sink.contents c.push_line.new.writer) (more _ given c.in-Some.text c.as_bytes.result.now _ _ e c.in-Some.ensures.next c.as_bytes.ensures.value) tt
    (subst (λ outcome. HasTaken outcome bytes c.push_line.new.self.buffer (g.W.Sink.contents c.args.writer.now) (g.W.Sink.contents c.push_line.new.writer)) (sym c.push_line.ensures.value ∙ c.in-Err.is)
    (c.push_line.ensures.given given _ outputs).taken)

pub returns-in-Err-clause-writes : goal.returns-in-Err-clause-writes
returns-in-Err-clause-writes g c =
    let (given, outputs, e) = c.loop-text.invariant in
    subst (λ outcome. Writes g.W.Sink.write_gives c.args.writer.now (write_failure outcome) c.push_line.new.writer) (sym c.push_line.ensures.value ∙ c.in-Err.is) (c.push_line.ensures.given given _ outputs).writes

pub returns-clause-lines : goal.returns-clause-lines
returns-clause-lines g c =
    let (given, outputs, e) = c.loop-text.invariant in
    let outputs = c.finish.ensures.passes_on given _ outputs in
    subst (λ page. WritesPage page c.finish.result (g.W.Sink.contents c.args.writer.now) (g.W.Sink.contents c.finish.new.writer)) (sym (e ∙ ap (λ l. given ++ l) c.in_default.ensures.next ∙ append-nil given))
    (subst (λ outcome. WritesPage given outcome (g.W.Sink.contents c.args.writer.now) (g.W.Sink.contents c.finish.new.writer)) (sym c.finish.ensures.value) (taken_all c.finish.new.self.outcome given c.finish.new.self.buffer _ _ c.finish.ensures.none outputs.taken))

pub returns-clause-writes : goal.returns-clause-writes
returns-clause-writes g c =
    let (given, outputs, e) = c.loop-text.invariant in
    subst (λ outcome. Writes g.W.Sink.write_gives c.args.writer.now (write_failure outcome) c.finish.new.writer) (sym c.finish.ensures.value) (c.finish.ensures.passes_on given _ outputs).writes
