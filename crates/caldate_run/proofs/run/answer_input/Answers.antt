use Rattle.std.proofs.Common.{◌≡◌, ◌-◌, arith, refl, rules}
use Rattle.std.specs.Prelude.{IsErrAnd}
use Rattle.caldate_lines.specs.declared.run_error.RunError.TheVariants.{Read}
use Rattle.caldate_run.specs.Runs.{HasEnded}
use Rattle.caldate_run.proofs.Rounds.{after_bytes, after_end, after_lines, as_read, begun_with, ended_early, ended_last, ended_unfinished, ended_unread, ended_whole}
use Rattle.caldate_run.proofs.run.answer_input.Goals as goal

pub loop-error-init : goal.loop-error-init
loop-error-init g c =
    begun_with g.R.Source.remaining g.R.Source.read_gives g.W.Sink.contents g.W.Sink.write_gives c.args.filter.now c.args.most c.args.input.now c.args.reader.now c.args.writer.now c.new-output.result _
    c.new-output.ensures.buffer c.new-output.ensures.outcome refl refl

pub returns-in-Err : goal.returns-in-Err
returns-in-Err g c =
    record {
      ended = ended_early g.R.Source.remaining g.R.Source.read_gives g.W.Sink.contents g.W.Sink.write_gives c.args.filter.now c.args.most c.loop-error.reads c.in-Err.error c.args.input.now c.args.reader.now c.loop-error.reader
          c.args.writer.now c.loop-error.writer c.answer_read.new.writer c.loop-error.output c.loop-error.input c.loop-error.progress c.loop-error.invariant c.in-Err.ensures.err;
    }

pub returns-then-reads-eq0 : goal.returns-then-reads-eq0
returns-then-reads-eq0 g c =
    let zero : c.loop-error.reads ≡ 0 = omega arith in
    let run = after_lines g.R.Source.remaining g.R.Source.read_gives g.W.Sink.contents g.W.Sink.write_gives c.args.filter.now c.args.most c.loop-error.reads c.args.input.now c.args.reader.now c.loop-error.reader
    c.args.writer.now c.loop-error.writer c.answer_read.new.writer c.loop-error.output c.answer_read.new.output c.loop-error.input c.answer_read.new.input c.loop-error.progress c.answer_read.new.progress c.loop-error.invariant c.in-Ok.ensures.ok in
    record {
      ended = ended_unfinished g.R.Source.remaining g.R.Source.read_gives g.W.Sink.contents g.W.Sink.write_gives c.args.filter.now c.args.most c.loop-error.reads c.args.input.now c.args.reader.now c.loop-error.reader
          c.args.writer.now c.answer_read.new.writer c.answer_read.new.output c.answer_read.new.input c.answer_read.new.progress run c.in-Ok.ensures.none c.in-Ok.ensures.done c.in-Ok.ensures.no_end zero;
    }

pub returns-in_err-read_more : goal.returns-in_err-read_more
returns-in_err-read_more g c =
    let is : IsErrAnd c.from_residual.result (λ error. error ≡ Read) = search rules in
    let gives = c.in_err-read_more.ensures.gives in
    let run = after_lines g.R.Source.remaining g.R.Source.read_gives g.W.Sink.contents g.W.Sink.write_gives c.args.filter.now c.args.most c.loop-error.reads c.args.input.now c.args.reader.now c.loop-error.reader
    c.args.writer.now c.loop-error.writer c.answer_read.new.writer c.loop-error.output c.answer_read.new.output c.loop-error.input c.answer_read.new.input c.loop-error.progress c.answer_read.new.progress c.loop-error.invariant c.in-Ok.ensures.ok in
    record {
      ended = as_read (λ r. HasEnded g.R.Source.remaining g.R.Source.read_gives g.W.Sink.contents g.W.Sink.write_gives c.args.filter.now c.args.most c.args.input.now r c.args.reader.now c.read_more.new.reader c.args.writer.now c.answer_read.new.writer)
          c.from_residual.result is
          (ended_unread g.R.Source.remaining g.R.Source.read_gives g.W.Sink.contents g.W.Sink.write_gives c.args.filter.now c.args.most c.loop-error.reads (c.loop-error.reads - 1) gives.0 c.args.input.now c.args.reader.now c.loop-error.reader c.read_more.new.reader
          c.args.writer.now c.answer_read.new.writer c.answer_read.new.output c.answer_read.new.input c.answer_read.new.progress run c.in-Ok.ensures.none c.in-Ok.ensures.done c.in-Ok.ensures.no_end c.in_err-read_more.ensures.err.1 (omega arith) gives.1);
    }

pub returns-in-Ok-answer_last : goal.returns-in-Ok-answer_last
returns-in-Ok-answer_last g c =
    let run = after_lines g.R.Source.remaining g.R.Source.read_gives g.W.Sink.contents g.W.Sink.write_gives c.args.filter.now c.args.most c.loop-error.reads c.args.input.now c.args.reader.now c.loop-error.reader
    c.args.writer.now c.loop-error.writer c.answer_read.new.writer c.loop-error.output c.answer_read.new.output c.loop-error.input c.answer_read.new.input c.loop-error.progress c.answer_read.new.progress c.loop-error.invariant c.in-Ok.ensures.ok in
    let last = after_end g.R.Source.remaining g.R.Source.read_gives g.W.Sink.contents g.W.Sink.write_gives c.args.filter.now c.args.most c.loop-error.reads _ c.args.input.now c.args.reader.now c.loop-error.reader c.read_more.new.reader
    c.args.writer.now c.answer_read.new.writer c.answer_read.new.output c.answer_read.new.input c.read_more.new.self c.answer_read.new.progress run c.in_ok-read_more.ensures.given c.if-branch-eq0.true c.in_ok-read_more.ensures.gives in
    record {
      ended = ended_whole g.R.Source.remaining g.R.Source.read_gives g.W.Sink.contents g.W.Sink.write_gives c.args.filter.now c.args.most c.loop-error.reads c.outcome.result c.answer_last.new.progress.tally c.args.input.now c.args.reader.now c.read_more.new.reader
          c.args.writer.now c.answer_read.new.writer c.answer_last.new.writer c.answer_read.new.output c.read_more.new.self c.answer_read.new.progress last
          (c.in_ok-read_more.ensures.end c.if-branch-eq0.true).0 (rw c.as_bytes.ensures.value at c.in-Ok-answer_last.ensures.ok) c.outcome.ensures.ok c.outcome.ensures.err;
    }

pub returns-in-Err-answer_last : goal.returns-in-Err-answer_last
returns-in-Err-answer_last g c =
    let run = after_lines g.R.Source.remaining g.R.Source.read_gives g.W.Sink.contents g.W.Sink.write_gives c.args.filter.now c.args.most c.loop-error.reads c.args.input.now c.args.reader.now c.loop-error.reader
    c.args.writer.now c.loop-error.writer c.answer_read.new.writer c.loop-error.output c.answer_read.new.output c.loop-error.input c.answer_read.new.input c.loop-error.progress c.answer_read.new.progress c.loop-error.invariant c.in-Ok.ensures.ok in
    let last = after_end g.R.Source.remaining g.R.Source.read_gives g.W.Sink.contents g.W.Sink.write_gives c.args.filter.now c.args.most c.loop-error.reads _ c.args.input.now c.args.reader.now c.loop-error.reader c.read_more.new.reader
    c.args.writer.now c.answer_read.new.writer c.answer_read.new.output c.answer_read.new.input c.read_more.new.self c.answer_read.new.progress run c.in_ok-read_more.ensures.given c.if-branch-eq0.true c.in_ok-read_more.ensures.gives in
    record {
      ended = ended_last g.R.Source.remaining g.R.Source.read_gives g.W.Sink.contents g.W.Sink.write_gives c.args.filter.now c.args.most c.loop-error.reads c.in-Err-answer_last.error c.args.input.now c.args.reader.now c.read_more.new.reader
          c.args.writer.now c.answer_read.new.writer c.answer_last.new.writer c.answer_read.new.output c.read_more.new.self c.answer_read.new.progress last
          (c.in_ok-read_more.ensures.end c.if-branch-eq0.true).0 (rw c.as_bytes.ensures.value at c.in-Err-answer_last.ensures.err);
    }

pub loop-error-preserved : goal.loop-error-preserved
loop-error-preserved g c =
    let run = after_lines g.R.Source.remaining g.R.Source.read_gives g.W.Sink.contents g.W.Sink.write_gives c.args.filter.now c.args.most c.loop-error.reads c.args.input.now c.args.reader.now c.loop-error.reader
    c.args.writer.now c.loop-error.writer c.answer_read.new.writer c.loop-error.output c.answer_read.new.output c.loop-error.input c.answer_read.new.input c.loop-error.progress c.answer_read.new.progress c.loop-error.invariant c.in-Ok.ensures.ok in
    after_bytes g.R.Source.remaining g.R.Source.read_gives g.W.Sink.contents g.W.Sink.write_gives c.args.filter.now c.args.most c.loop-error.reads (c.loop-error.reads - 1) _ c.args.input.now c.args.reader.now c.loop-error.reader c.read_more.new.reader
    c.args.writer.now c.answer_read.new.writer c.answer_read.new.output c.answer_read.new.input c.read_more.new.self c.answer_read.new.progress run c.in_ok-read_more.ensures.given (omega arith) (omega arith) c.in_ok-read_more.ensures.gives
