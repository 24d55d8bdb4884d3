use Rattle.std.proofs.Common.{◌∙◌, sym}
use Rattle.caldate_run.proofs.Advances.{all_pass_on, completed, failed_last, if_err, last_replied, on_ok, stopped_last}
use Rattle.caldate_run.proofs.Steps.{ends_at}
use Rattle.caldate_run.proofs.run.answer_line.Goals as goal

pub returns-in-Err-clause-err : goal.returns-in-Err-clause-err
returns-in-Err-clause-err g c = λ input start h.
    let ends = ends_at c.args.filter.now c.args.progress.now c.push_reply.new.progress c.args.line.now c.in-Err.why c.describe_line.result
    c.in-Err.ensures.still c.in-Err.ensures.ends c.describe_line.ensures in
    stopped_last g.W.Sink.contents g.W.Sink.write_gives c.args.filter.now input start _ c.args.output.now c.args.line.now c.args.progress.now c.describe_line.result c.requires.no_end c.requires.some ends
    c.requires.none c.requires.done h

pub returns-in-Ok-clause-ok : goal.returns-in-Ok-clause-ok
returns-in-Ok-clause-ok g c = on_ok c.finish.result _ (λ done input start h.
    let replied = last_replied g.W.Sink.contents g.W.Sink.write_gives c.args.filter.now input start _ c.args.output.now c.push_reply.new.buffer c.args.line.now c.args.progress.now c.push_reply.new.progress.tally c.requires.no_end c.requires.some c.in-Ok.ensures.replied h in
    completed g.W.Sink.contents g.W.Sink.write_gives c.args.filter.now input start _ c.finish.new.self c.push_reply.new.progress.tally c.finish.ensures.none (sym c.finish.ensures.value ∙ done)
    (all_pass_on g.W.Sink.contents g.W.Sink.write_gives c.args.filter.now input start _ _ _ c.finish.new.self c.push_reply.new.progress.tally c.finish.ensures.passes_on replied))

pub returns-in-Ok-clause-err : goal.returns-in-Ok-clause-err
returns-in-Ok-clause-err g c = if_err c.finish.result _ (λ error is input start h.
    let replied = last_replied g.W.Sink.contents g.W.Sink.write_gives c.args.filter.now input start _ c.args.output.now c.push_reply.new.buffer c.args.line.now c.args.progress.now c.push_reply.new.progress.tally c.requires.no_end c.requires.some c.in-Ok.ensures.replied h in
    failed_last g.W.Sink.contents g.W.Sink.write_gives c.args.filter.now input start _ c.finish.new.self c.push_reply.new.progress.tally error (sym c.finish.ensures.value ∙ is)
    (all_pass_on g.W.Sink.contents g.W.Sink.write_gives c.args.filter.now input start _ _ _ c.finish.new.self c.push_reply.new.progress.tally c.finish.ensures.passes_on replied))
