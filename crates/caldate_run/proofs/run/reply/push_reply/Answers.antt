use Rattle.std.proofs.Common.{None, arith, refl}
use Rattle.caldate_run.proofs.Replied.{of_pieces, replied, short_left, weaker}
use Rattle.caldate_run.proofs.run.reply.push_reply.Goals as goal

pub returns-in-Some-clause-replied : goal.returns-in-Some-clause-replied
returns-in-Some-clause-replied c = λ kept before held number.
    let filter = c.args.filter.now in
    let line = c.args.line.now in
    let text = c.cut_return-has_return.result.0.now in
    let simple = c.in-Some.ensures.simple in
    replied filter before c.args.progress.now.is_long kept line c.args.buffer.now c.push_simple.new.buffer c.push_end.new.buffer None c.in-Some.goes_out _ c.args.progress.now.tally c.count.new.self held
    (short_left filter before c.args.progress.now.is_long kept line text c.args.buffer.now c.push_simple.new.buffer None c.in-Some.goes_out simple.0 held c.cut_return-has_return.ensures.text
    (weaker _ _ _ _ _ (λ out h. of_pieces filter before text None out simple.1 (omega (arith, simple.2, number)) simple.3 h) c.in-Some.ensures.out))
    c.cut_return-has_return.ensures.cut c.push_end.ensures refl c.count.ensures
