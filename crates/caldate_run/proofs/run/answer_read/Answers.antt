use Rattle.std.proofs.Common.{◌∙◌, ℕ, List, subst, sym}
use Rattle.caldate_run.specs.Runs.{HasRun}
use Rattle.caldate_run.proofs.Advances.{failed_early, front_dropped, if_err, on_ok, passes_on}
use Rattle.caldate_run.proofs.run.answer_read.Goals as goal

pub returns-in-Err-clause-err : goal.returns-in-Err-clause-err
returns-in-Err-clause-err g c = rw c.as_bytes.ensures.value at c.in-Err.ensures.err

-- the state when everything is written
pub returns-clause-ok : goal.returns-clause-ok
returns-clause-ok g c = on_ok c.finish.result _ (λ done input start h.
    let lines = rw c.as_bytes.ensures.value at c.in-Ok.ensures.ok input start h in
    let kept = subst (λ (p : List ℕ). HasRun g.W.Sink.contents g.W.Sink.write_gives c.args.filter.now input start c.answer_lines.new.output c.answer_lines.new.writer p c.answer_lines.new.progress) (sym c.keep_last.ensures) lines in
    let flushed = passes_on g.W.Sink.contents g.W.Sink.write_gives c.args.filter.now input start _ _ c.answer_lines.new.output c.flush.new.self c.keep_last.new.self c.answer_lines.new.progress c.flush.ensures.passes_on kept in
    let dropped = front_dropped g.W.Sink.contents g.W.Sink.write_gives c.args.filter.now input start _ c.flush.new.self c.discard_long_line.new.buffer c.keep_last.new.self c.discard_long_line.new.input c.answer_lines.new.progress c.discard_long_line.new.progress c.flush.ensures.none c.discard_long_line.ensures.advances flushed in
    passes_on g.W.Sink.contents g.W.Sink.write_gives c.args.filter.now input start _ _ _ c.finish.new.self c.discard_long_line.new.input c.discard_long_line.new.progress c.finish.ensures.passes_on dropped)

pub returns-clause-err : goal.returns-clause-err
returns-clause-err g c = if_err c.finish.result _ (λ error is input start h.
    let lines = rw c.as_bytes.ensures.value at c.in-Ok.ensures.ok input start h in
    let kept = subst (λ (p : List ℕ). HasRun g.W.Sink.contents g.W.Sink.write_gives c.args.filter.now input start c.answer_lines.new.output c.answer_lines.new.writer p c.answer_lines.new.progress) (sym c.keep_last.ensures) lines in
    let flushed = passes_on g.W.Sink.contents g.W.Sink.write_gives c.args.filter.now input start _ _ c.answer_lines.new.output c.flush.new.self c.keep_last.new.self c.answer_lines.new.progress c.flush.ensures.passes_on kept in
    let dropped = front_dropped g.W.Sink.contents g.W.Sink.write_gives c.args.filter.now input start _ c.flush.new.self c.discard_long_line.new.buffer c.keep_last.new.self c.discard_long_line.new.input c.answer_lines.new.progress c.discard_long_line.new.progress c.flush.ensures.none c.discard_long_line.ensures.advances flushed in
    let last = passes_on g.W.Sink.contents g.W.Sink.write_gives c.args.filter.now input start _ _ _ c.finish.new.self c.discard_long_line.new.input c.discard_long_line.new.progress c.finish.ensures.passes_on dropped in
    failed_early g.W.Sink.contents g.W.Sink.write_gives c.args.filter.now input start _ c.finish.new.self c.discard_long_line.new.input c.discard_long_line.new.progress error (sym c.finish.ensures.value ∙ is) last)

pub returns-clause-done : goal.returns-clause-done
returns-clause-done g c = on_ok c.finish.result _ (λ done. sym c.finish.ensures.value ∙ done)
