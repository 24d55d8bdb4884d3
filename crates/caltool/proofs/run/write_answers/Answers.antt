use Rattle.std.proofs.Common.{rules, ◌≡◌, ◌++◌, List, ℕ, ap, subst, sym, false, ◌∙◌}
use Rattle.std.proofs.lemmas.List.{append-nil}
use Rattle.std.proofs.lemmas.Result.{on_err_weaker}
use Rattle.caltool.specs.Answers.{out}
use Rattle.caltool.specs.Calls.{Writes, has_write_failure, most_retries}
use Rattle.caltool.specs.Calls.Calls.{no_more}
use Rattle.caltool.specs.Runs.{AppendsPrefix}
use Rattle.caltool.proofs.Calls.{calls_then}
use Rattle.caltool.proofs.Known.{HasTaken, taken_front}
use Rattle.caltool.proofs.Replies.{one_more, front_of_gathered}
use Rattle.caltool.proofs.run.write_answers.Goals as goal

pub loop-line-preserved : goal.loop-line-preserved
loop-line-preserved g c =
    let gone = c.in_ok-make_room.ensures.ok in (
      one_more _ _ _ c.args.input.now c.loop-line.rest.now c.in-Some.after.now c.in-Some.line.now c.loop-line.buffer c.make_room.new.buffer gone.0 c.reply.new.buffer
          c.loop-line.invariant.0 c.in-Some.ensures.value gone.1 c.reply.ensures gone.2,
      calls_then _ _ _ _ _ _ _ _ _ c.loop-line.invariant.1 c.in_ok-make_room.ensures.writes,
    )

pub returns-in_err-make_room-clause-prefix : goal.returns-in_err-make_room-clause-prefix
returns-in_err-make_room-clause-prefix g c =
    let front = front_of_gathered _ _ _ c.args.input.now c.loop-line.rest.now c.loop-line.buffer c.loop-line.invariant.0 c.in_err-make_room.ensures.prefix in
    search (rules, front)

pub returns-clause-prefix : goal.returns-clause-prefix
unfolding out
returns-clause-prefix g c =
    let none : c.loop-line.buffer ++ out c.loop-line.rest.now ≡ c.loop-line.buffer =
    ap (λ rest. c.loop-line.buffer ++ out rest) c.in_default.ensures.value ∙ append-nil c.loop-line.buffer in
    let P : List ℕ → Type 0 = λ bytes. HasTaken (g.W.Sink.contents c.args.writer.now) (g.W.Sink.contents c.loop-line.writer) (out c.args.input.now) bytes in
    let Q : List ℕ → Type 0 = λ bytes. AppendsPrefix (g.W.Sink.contents c.loop-line.writer) (g.W.Sink.contents c.write_all.new.writer) bytes in
    on_err_weaker _ (λ front. taken_front _ _ _ (out c.args.input.now) c.loop-line.buffer (subst P none c.loop-line.invariant.0) (subst Q c.as_bytes.ensures front)) c.write_all.ensures.prefix

pub loop-line-init : goal.loop-line-init
loop-line-init g c = (search rules, subst (λ left. Writes g.W.Sink.write_gives most_retries c.args.writer.now false left c.args.writer.now) (sym c.new-retries.ensures) (no_more _ _))

pub returns-in_err-make_room-clause-writes : goal.returns-in_err-make_room-clause-writes
returns-in_err-make_room-clause-writes g c =
    let last : Writes g.W.Sink.write_gives c.loop-line.retries c.loop-line.writer (has_write_failure c.from_residual.result) c.make_room.new.retries c.make_room.new.writer = search rules in
    (c.make_room.new.retries, calls_then _ _ _ _ _ _ _ _ _ c.loop-line.invariant.1 last)

pub returns-clause-writes : goal.returns-clause-writes
returns-clause-writes g c = (c.write_all.new.retries, calls_then _ _ _ _ _ _ _ _ _ c.loop-line.invariant.1 c.write_all.ensures.writes)
