use Rattle.std.proofs.Common.{◌≡◌, ◌∙◌, ◌++◌, false, Option, ap, arith, length, length-append, subst, sym}
use Rattle.std.specs.Prelude.{◌&&◌, is_some}
use Rattle.caldate_lines.specs.Lines.{text_of}
use Rattle.caldate_lines.specs.declared.no_answer.NoAnswer.{NoAnswer}
use Rattle.caldate_answers.proofs.Appends.{taken_back}
use Rattle.caldate_run.specs.Replies.{IsOutcome, stops}
use Rattle.caldate_run.proofs.Replied.{Left, replied}
use Rattle.caldate_run.proofs.run.reply.push_otherwise.Goals as goal
use Rattle.caldate_run.proofs.run.reply.push_otherwise.Goals.{in-Some+else-stops, in_default}

pub returns-clause-replied : goal.returns-clause-replied
returns-clause-replied c = λ line text has kept before held number.
    let mode = c.args.filter.now.on_invalid in
    let same : c.push_line-goes_out.result.1 ≡ c.match-why.why =
    elim c.match-why.branch [ in-Some+else-stops w ↦ w.in-Some.is ∙ sym w.why-is | in_default w ↦ sym w.why-is ] in
    let on : (is_some c.match-why.why && stops mode) ≡ false =
    elim c.match-why.branch [
      | in-Some+else-stops w ↦ ap (λ o. is_some o && stops mode) w.why-is ∙ sym w.stops.ensures ∙ w.if-stops.false
      | in_default w ↦ ap (λ o. is_some o && stops mode) (w.why-is ∙ w.in_default.is)
    ] in
    let left = subst (λ (any : Option NoAnswer). Left c.args.filter.now before kept line any c.push_line-goes_out.result.0 c.args.buffer.now c.push_line-goes_out.new.buffer) same
    (c.push_line-goes_out.ensures.left line text kept before held number) in
    replied c.args.filter.now before c.args.progress.now.is_long kept line c.args.buffer.now c.push_line-goes_out.new.buffer c.push_end.new.buffer c.match-why.why
    c.push_line-goes_out.result.0 c.args.with_return c.args.progress.now.tally c.count.new.progress.tally held left
    has c.push_end.ensures on (c.count.ensures.counted before number)

pub truncate-requires : goal.truncate-requires
truncate-requires c =
    let more = c.push_line-goes_out.ensures.appends in
    omega (arith, c.len-start.ensures, ap length more.1, length-append c.args.buffer.now more.0)

pub returns-then-stops-clause-ends : goal.returns-then-stops-clause-ends
returns-then-stops-clause-ends c = λ line text kept before held number.
    let left = c.push_line-goes_out.ensures.left line text kept before held number in
    (sym c.stops.ensures ∙ c.if-stops.true, (left.0, subst (λ (any : Option NoAnswer). IsOutcome c.args.filter.now before (text_of (kept ++ line)) any left.0) c.in-Some.is left.5))

pub returns-then-stops-clause-same : goal.returns-then-stops-clause-same
returns-then-stops-clause-same c =
    let more = c.push_line-goes_out.ensures.appends in
    taken_back c.args.buffer.now c.push_line-goes_out.new.buffer more.0 c.truncate.new.self c.len-start.result c.len-start.ensures more.1 c.truncate.ensures
