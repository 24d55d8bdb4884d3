use Rattle.caldate_run.proofs.PieceOuts.{new_pieces, single_answered, whole_pieces}
use Rattle.caldate_run.proofs.run.pieces.push_pieces.Goals as goal

pub returns-in-Some-clause-answered : goal.returns-in-Some-clause-answered
returns-in-Some-clause-answered c =
    single_answered c.args.filter.now c.args.text.now _ _ _ _ _ _ (new_pieces c.args.filter.now c.in-Some.field c.args.text.now c.in-Some.is c.if-field.true)
    c.new_field.ensures c.push_piece.ensures.out

pub returns-in-None-clause-answered : goal.returns-in-None-clause-answered
returns-in-None-clause-answered c =
    single_answered c.args.filter.now c.args.text.now _ _ _ _ _ _ (whole_pieces c.args.filter.now c.args.text.now c.in-None.is) c.whole.ensures c.push_piece-in-None.ensures.out
