use Rattle.std.proofs.Common.{◌≡◌, ◌∙◌, ℕ, Bool, List, Err, Ok, true, false, inl, inr, ap, refl, subst, sym}
use Rattle.std.specs.Prelude.{MatchBool}
use Rattle.caldate_lines.specs.Calls.Reads.{no_more}
use Rattle.caldate_lines.specs.Ending.{ReportsOutcome}
use Rattle.caldate_lines.specs.Fields.{overlap}
use Rattle.caldate_lines.specs.Header.{header_of}
use Rattle.caldate_answers.specs.declared.request.Filter.{Filter}
use Rattle.caldate_run.specs.Named.{numbers_in}
use Rattle.caldate_run.specs.Runs.{IsRunResult}
use Rattle.caldate_run.proofs.Named.{says}
use Rattle.caldate_run.proofs.run.named.run_named.Goals as goal

no_overlap : (filter own : Filter) (P Q : Type 0) → own ≡ filter → overlap own.several ≡ false → Q → MatchBool (overlap filter.several) P Q
no_overlap filter own P Q e h q = subst (λ (b : Bool). MatchBool b P Q) (sym h ∙ ap (λ (f : Filter). overlap f.several) e) q

overlaps : (filter own : Filter) (P Q : Type 0) → own ≡ filter → overlap own.several ≡ true → P → MatchBool (overlap filter.several) P Q
overlaps filter own P Q e h p = subst (λ (b : Bool). MatchBool b P Q) (sym h ∙ ap (λ (f : Filter). overlap f.several) e) p

pub returns-in-Err-clause-ended : goal.returns-in-Err-clause-ended
returns-in-Err-clause-ended g c =
    let front = c.in-Err.ensures.no_end in
    let reported = subst (λ error. ReportsOutcome (Err error) c.end.result (g.E.Sink.contents c.args.errors.now) (g.E.Sink.contents c.end.new.writer)) c.in-Err.ensures.err c.end.ensures.reports in
    record {
      front = front.0;
      left = g.R.Source.remaining c.read_header.new.reader;
      given = front.1;
      ends = inl (front.2, (reported.1.0, reported.1.1, (c.in-Err.ensures.failed, refl, reported.0, reported.1.2)));
    }

pub returns-in-Err-numbers_in-clause-ended : goal.returns-in-Err-numbers_in-clause-ended
returns-in-Err-numbers_in-clause-ended g c =
    let front = c.read_header.new.input in
    let name = c.in-Err-numbers_in.name.now in
    let header : c.header_of-header.result.now ≡ header_of c.args.field front = (cc) in
    let lacking = subst (λ (h : List ℕ). numbers_in c.args.filter c.args.field h ≡ Err name) header c.in-Err-numbers_in.ensures in
    record {
      front = front;
      left = g.R.Source.remaining c.read_header.new.reader;
      given = c.in-Ok.ensures.given;
      ends = inr (
        c.in-Ok.ensures.header,
        says _ (Err name) _ _ lacking (
          c.report_header_error.ensures.words.0,
          c.report_header_error.ensures.words.1,
          (c.in-Ok.ensures.reads false _ (no_more _ _), refl, refl, c.report_header_error.ensures.words.2),
        ),
      );
    }

pub returns-then-overlap-clause-ended : goal.returns-then-overlap-clause-ended
returns-then-overlap-clause-ended g c =
    let front = c.read_header.new.input in
    let numbers = c.in-Ok-numbers_in.numbers in
    let header : c.header_of-header.result.now ≡ header_of c.args.field front = (cc) in
    let known = subst (λ (h : List ℕ). numbers_in c.args.filter c.args.field h ≡ Ok numbers) header c.in-Ok-numbers_in.ensures in
    record {
      front = front;
      left = g.R.Source.remaining c.read_header.new.reader;
      given = c.in-Ok.ensures.given;
      ends = inr (
        c.in-Ok.ensures.header,
        says _ (Ok numbers) _ _ known (overlaps _ _ _ _ c.numbered-own.ensures (sym c.overlap.ensures ∙ c.if-overlap.true) (
          c.report_overlap.ensures.words.0,
          c.report_overlap.ensures.words.1,
          (c.in-Ok.ensures.reads false _ (no_more _ _), refl, refl, c.report_overlap.ensures.words.2),
        )),
      );
    }

pub returns-else-overlap-clause-ended : goal.returns-else-overlap-clause-ended
returns-else-overlap-clause-ended g c =
    let front = c.read_header.new.input in
    let numbers = c.in-Ok-numbers_in.numbers in
    let header : c.header_of-header.result.now ≡ header_of c.args.field front = (cc) in
    let known = subst (λ (h : List ℕ). numbers_in c.args.filter c.args.field h ≡ Ok numbers) header c.in-Ok-numbers_in.ensures in
    let run = subst (λ (own : Filter). IsRunResult own c.answer_input-outcome.result (g.R.Source.remaining c.args.reader.now) (g.R.Source.remaining c.answer_input-outcome.new.reader) (g.W.Sink.contents c.args.writer.now) (g.W.Sink.contents c.answer_input-outcome.new.writer)) c.numbered-own.ensures
    (c.answer_input-outcome.ensures.ended.bytes _ c.in-Ok.ensures.given) in
    record {
      front = front;
      left = g.R.Source.remaining c.read_header.new.reader;
      given = c.in-Ok.ensures.given;
      ends = inr (
        c.in-Ok.ensures.header,
        says _ (Ok numbers) _ _ known (no_overlap _ _ _ _ c.numbered-own.ensures (sym c.overlap.ensures ∙ c.if-overlap.false) (
          c.answer_input-outcome.result,
          (run, c.in-Ok.ensures.reads _ _ c.answer_input-outcome.ensures.ended.reads, c.answer_input-outcome.ensures.ended.writes, c.end_after.ensures.reports),
        )),
      );
    }

-- ---- the reads
pub returns-then-overlap-clause-reads : goal.returns-then-overlap-clause-reads
returns-then-overlap-clause-reads g c = (false, c.in-Ok.ensures.reads false _ (no_more _ _))

pub returns-in-Err-clause-reads : goal.returns-in-Err-clause-reads
returns-in-Err-clause-reads g c = (true, c.in-Err.ensures.failed)

pub returns-in-Err-numbers_in-clause-reads : goal.returns-in-Err-numbers_in-clause-reads
returns-in-Err-numbers_in-clause-reads g c = (false, c.in-Ok.ensures.reads false _ (no_more _ _))

pub returns-else-overlap-clause-reads : goal.returns-else-overlap-clause-reads
returns-else-overlap-clause-reads g c = (_, c.in-Ok.ensures.reads _ _ c.answer_input-outcome.ensures.ended.reads)
