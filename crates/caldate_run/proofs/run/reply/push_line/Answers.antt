use Rattle.std.proofs.Common.{arith, inl, inr}
use Rattle.caldate_run.proofs.Replied.{long_left, of_scan, short_left, weaker}
use Rattle.caldate_run.proofs.run.reply.push_line.Goals as goal
use Rattle.caldate_run.proofs.run.reply.push_line.Goals.{then-progress-via-then-progress, then-progress-via-else-progress+then-text-gt-LONGEST_TEXT}

pub returns-then-progress-clause-left : goal.returns-then-progress-clause-left
returns-then-progress-clause-left c = λ line is kept before held number.
    long_left c.args.filter.now before c.args.progress.now.is_long kept line c.args.text.now c.args.buffer.now c.push_in_place.new.buffer c.own_field-field.result c.push_in_place.result held is
    (elim c.then-progress.branch [
      | then-progress-via-then-progress w ↦ inl w.if-progress.true
      | then-progress-via-else-progress+then-text-gt-LONGEST_TEXT w ↦ inr w.if-text-gt-LONGEST_TEXT.true
    ]) (c.own_field-field.ensures before number) c.push_in_place.ensures.text c.push_in_place.ensures.goes_out

pub returns-then-filter-clause-left : goal.returns-then-filter-clause-left
returns-then-filter-clause-left c = λ line is kept before held number.
    let filter = c.args.filter.now in
    let text = c.args.text.now in
    short_left filter before c.args.progress.now.is_long kept line text c.args.buffer.now c.push_texts.new.buffer c.push_texts.result.1 c.push_texts.result.0 c.if-progress.false held is
    (weaker _ _ _ _ _ (λ out h. of_scan filter before text c.push_texts.result.1 out (omega (arith, c.if-text-gt-LONGEST_TEXT.false)) (omega (arith, c.if-number-filter.false, number)) c.if-filter.true h)
    c.push_texts.ensures.left)

pub returns-then-filter-clause-appends : goal.returns-then-filter-clause-appends
returns-then-filter-clause-appends c = (_, c.push_texts.ensures.left.1)
