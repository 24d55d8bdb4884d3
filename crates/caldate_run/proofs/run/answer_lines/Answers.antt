use Rattle.std.proofs.Common.{◌≡◌, ◌-◌, ◌++◌, ◌∷◌, [], ◌∙◌, ℕ, List, Bool, ap, sym, subst, append_assoc, arith, drop, length, length-append}
use Rattle.std.proofs.Math.Seq.{drop-append_seam}
use Rattle.std.specs.Prelude.{if◌then◌else◌}
use Rattle.caldate_lines.specs.RunStates.{FirstEnds}
use Rattle.caldate_lines.specs.declared.quoting.Quoting.TheVariants.{Ready}
use Rattle.caldate_run.specs.Runs.{Advances}
use Rattle.caldate_run.proofs.Advances.{failed_early, line_answered, passes_on, same_run, stopped_early}
use Rattle.caldate_run.proofs.Steps.{ends_at}
use Rattle.caldate_run.proofs.run.answer_lines.Goals as goal

pub returns-in-Ok-finish-clause-err : goal.returns-in-Ok-finish-clause-err
returns-in-Ok-finish-clause-err g c = λ input start h.
    let run = passes_on g.W.Sink.contents g.W.Sink.write_gives c.args.filter.now input start _ _ c.loop-line.output c.make_room.new.self c.loop-line.rest.now c.loop-line.progress c.make_room.ensures.passes_on (c.loop-line.invariant.1 input start h) in
    let same = same_run g.W.Sink.contents g.W.Sink.write_gives c.args.filter.now input start _ c.make_room.new.self c.push_reply.new.buffer c.loop-line.rest.now c.loop-line.progress c.in-Err.ensures.same run in
    let last = passes_on g.W.Sink.contents g.W.Sink.write_gives c.args.filter.now input start _ _ _ c.finish.new.self c.loop-line.rest.now c.loop-line.progress c.finish.ensures.passes_on same in
    let ends = ends_at c.args.filter.now c.loop-line.progress c.push_reply.new.progress c.in-Some.line.now c.in-Err.why c.describe_line-reported.result
    c.in-Err.ensures.still c.in-Err.ensures.ends c.describe_line-reported.ensures in
    stopped_early g.W.Sink.contents g.W.Sink.write_gives c.args.filter.now input start _ c.finish.new.self c.loop-line.rest.now c.in-Some.line.now c.in-Some.after.now c.loop-line.progress c.describe_line-reported.result
    (subst (λ q. FirstEnds c.args.filter.now.field q c.loop-line.rest.now c.in-Some.line.now c.in-Some.after.now) c.loop-line.invariant.2 c.in-Some.ensures.parts) ends c.finish.ensures.none (sym c.finish.ensures.value ∙ c.in-Ok-finish.is) last

pub returns-in-Err-finish-clause-err : goal.returns-in-Err-finish-clause-err
returns-in-Err-finish-clause-err g c = λ input start h.
    let run = passes_on g.W.Sink.contents g.W.Sink.write_gives c.args.filter.now input start _ _ c.loop-line.output c.make_room.new.self c.loop-line.rest.now c.loop-line.progress c.make_room.ensures.passes_on (c.loop-line.invariant.1 input start h) in
    let same = same_run g.W.Sink.contents g.W.Sink.write_gives c.args.filter.now input start _ c.make_room.new.self c.push_reply.new.buffer c.loop-line.rest.now c.loop-line.progress c.in-Err.ensures.same run in
    let last = passes_on g.W.Sink.contents g.W.Sink.write_gives c.args.filter.now input start _ _ _ c.finish.new.self c.loop-line.rest.now c.loop-line.progress c.finish.ensures.passes_on same in
    failed_early g.W.Sink.contents g.W.Sink.write_gives c.args.filter.now input start _ c.finish.new.self c.loop-line.rest.now c.loop-line.progress c.in-Err-finish.error (sym c.finish.ensures.value ∙ c.in-Err-finish.is) last

pub loop-line-preserved : goal.loop-line-preserved
loop-line-preserved g c =
    let front = c.loop-line.invariant.0.0 in
    let line = c.in-Some.line.now in
    let after = c.in-Some.after.now in (
      (front ++ (line ++ 10 ∷ []), c.loop-line.invariant.0.1 ∙ ap (λ rest. front ++ rest) (c.in-Some.ensures.whole ∙ sym (append_assoc line (10 ∷ []) after)) ∙ sym (append_assoc front (line ++ 10 ∷ []) after)),
      λ input start h.
          let run = passes_on g.W.Sink.contents g.W.Sink.write_gives c.args.filter.now input start _ _ c.loop-line.output c.make_room.new.self c.loop-line.rest.now c.loop-line.progress c.make_room.ensures.passes_on (c.loop-line.invariant.1 input start h) in
          line_answered g.W.Sink.contents g.W.Sink.write_gives c.args.filter.now input start _ c.make_room.new.self c.push_reply.new.buffer c.loop-line.rest.now line after c.loop-line.progress c.push_reply.new.progress
          (subst (λ q. FirstEnds c.args.filter.now.field q c.loop-line.rest.now line after) c.loop-line.invariant.2 c.in-Some.ensures.parts) c.in-Ok.ensures.replied
          c.in-Ok.ensures.short c.in-Ok.ensures.counted run,
      sym (ap (λ (b : Bool). if b then c.push_reply.new.progress.quoting else Ready) c.in-Ok.ensures.short),
    )

pub returns-clause-ok : goal.returns-clause-ok
returns-clause-ok g c =
    let (front, e) = c.loop-line.invariant.0 in
    let rest = c.loop-line.rest.now in
    let n = length rest in
    let all : length (front ++ rest) - n ≡ length front = omega (arith, length-append front rest) in
    let left : drop (length c.args.bytes.now - n) c.args.bytes.now ≡ rest =
    ap (λ b. drop (length b - n) b) e ∙ ap (λ k. drop k (front ++ rest)) all ∙ drop-append_seam front rest in
    subst (λ (p : List ℕ). Advances g.W.Sink.contents g.W.Sink.write_gives c.args.filter.now c.args.output.now c.loop-line.output c.args.writer.now c.loop-line.writer c.args.bytes.now p c.args.progress.now c.loop-line.progress)
    (sym left) c.loop-line.invariant.1
