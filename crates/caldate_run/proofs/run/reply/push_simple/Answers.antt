use Rattle.caldate_run.proofs.PieceOuts.{whole_answered}
use Rattle.caldate_run.proofs.run.reply.push_simple.Goals as goal

pub returns-in-Ok-clause-out : goal.returns-in-Ok-clause-out
returns-in-Ok-clause-out c =
    whole_answered c.args.filter.now c.args.text.now c.in-Ok.goes_out c.args.buffer.now c.push_answer.new.buffer c.in-None.is (c.is_simple.ensures.other c.if-not-is_simple.false) c.in-Ok.ensures.answered
