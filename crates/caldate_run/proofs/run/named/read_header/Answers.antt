use Rattle.std.proofs.Common.{◌≡◌, ◌-◌, ℕ, List, ap, arith, inl, inr, length, subst, sym, true, Some}
use Rattle.std.specs.Io.KnownBytes.{Consumes}
use Rattle.std.proofs.KnownBytes.{Consumes-kept, Consumes-nil, Consumes-trans}
use Rattle.caldate_lines.specs.Calls.{Reads}
use Rattle.caldate_lines.specs.Calls.Reads.{too_many}
use Rattle.caldate_lines.specs.RunStates.{NoEnd}
use Rattle.caldate_lines.proofs.Calls.{reads_ended, reads_failed, reads_given}
use Rattle.caldate_lines.specs.declared.quoting.Quoting.TheVariants.{Ready}
use Rattle.caldate_lines.proofs.Splits.{of_none}
use Rattle.caldate_run.proofs.Named.{has_header}
use Rattle.caldate_run.proofs.run.named.read_header.Goals as goal

pub loop-reads-init : goal.loop-reads-init
loop-reads-init g c =
    let r = g.R.Source.remaining c.args.reader.now in (
      subst (λ (bytes : List ℕ). Consumes r r bytes) (sym c.requires) (Consumes-nil r),
      subst (NoEnd (Some c.args.field) Ready) (sym c.requires) (of_none (Some c.args.field) Ready),
      omega (arith, ap length c.requires),
      λ failed last reads. reads,
    )

pub returns-in-Err-clause-no_end : goal.returns-in-Err-clause-no_end
returns-in-Err-clause-no_end g c =
    (c.loop-reads.input, Consumes-kept _ _ _ _ c.loop-reads.invariant.0 c.in-Err.ensures.err.1, c.loop-reads.invariant.1)

pub returns-in-Err-clause-failed : goal.returns-in-Err-clause-failed
returns-in-Err-clause-failed g c =
    let gives = c.in-Err.ensures.gives in
    c.loop-reads.invariant.3 _ _ (reads_failed _ c.loop-reads.reads (c.loop-reads.reads - 1) _ _ gives.0 (omega arith) gives.1)

pub returns-then-count-eq0-clause-given : goal.returns-then-count-eq0-clause-given
returns-then-count-eq0-clause-given g c =
    let more = c.in-Ok.ensures.given in
    subst (λ (bytes : List ℕ). Consumes (g.R.Source.remaining c.args.reader.now) (g.R.Source.remaining c.read_more.new.reader) bytes) (sym more.2)
    (Consumes-trans _ _ _ _ _ c.loop-reads.invariant.0 more.1)

pub returns-then-count-eq0-clause-header : goal.returns-then-count-eq0-clause-header
returns-then-count-eq0-clause-header g c = inr (inl (c.in-Ok.ensures.end c.if-count-eq0.true).0)

pub returns-then-count-eq0-clause-reads : goal.returns-then-count-eq0-clause-reads
returns-then-count-eq0-clause-reads g c = λ failed last more.
    c.loop-reads.invariant.3 failed last (reads_ended _ c.loop-reads.reads _ _ _ _ _ c.if-count-eq0.true c.in-Ok.ensures.gives more)

pub returns-then-has_header-clause-given : goal.returns-then-has_header-clause-given
returns-then-has_header-clause-given g c =
    let more = c.in-Ok.ensures.given in
    subst (λ (bytes : List ℕ). Consumes (g.R.Source.remaining c.args.reader.now) (g.R.Source.remaining c.read_more.new.reader) bytes) (sym more.2)
    (Consumes-trans _ _ _ _ _ c.loop-reads.invariant.0 more.1)

pub returns-then-has_header-clause-header : goal.returns-then-has_header-clause-header
returns-then-has_header-clause-header g c = has_header c.args.field _ c.as_bytes.result.now c.read_more.new.self c.as_bytes.ensures.value (c.has_header.ensures.whole c.if-has_header.true)

pub returns-then-has_header-clause-reads : goal.returns-then-has_header-clause-reads
returns-then-has_header-clause-reads g c = λ failed last more.
    c.loop-reads.invariant.3 failed last (reads_given _ c.loop-reads.reads _ _ _ _ _ _ (omega arith) (omega arith) c.in-Ok.ensures.gives more)

pub loop-reads-preserved : goal.loop-reads-preserved
loop-reads-preserved g c =
    let more = c.in-Ok.ensures.given in (
      subst (λ (bytes : List ℕ). Consumes (g.R.Source.remaining c.args.reader.now) (g.R.Source.remaining c.read_more.new.reader) bytes) (sym more.2)
          (Consumes-trans _ _ _ _ _ c.loop-reads.invariant.0 more.1),
      subst (NoEnd (Some c.args.field) Ready) c.as_bytes.ensures.value (c.has_header.ensures.no_end c.if-has_header.false),
      omega (arith, ap length c.as_bytes.ensures.value, c.has_header.ensures.few c.if-has_header.false),
      λ failed last more. c.loop-reads.invariant.3 failed last (reads_given _ c.loop-reads.reads _ _ _ _ _ _ (omega arith) (omega arith) c.in-Ok.ensures.gives more),
    )

pub returns-clause-no_end : goal.returns-clause-no_end
returns-clause-no_end g c = (c.loop-reads.input, c.loop-reads.invariant.0, c.loop-reads.invariant.1)

pub returns-clause-failed : goal.returns-clause-failed
returns-clause-failed g c =
    let zero : c.loop-reads.reads ≡ 0 = omega arith in
    c.loop-reads.invariant.3 _ _ (subst (λ most. Reads g.R.Source.read_gives most c.loop-reads.reader true c.loop-reads.reader) (sym zero) (too_many _))
