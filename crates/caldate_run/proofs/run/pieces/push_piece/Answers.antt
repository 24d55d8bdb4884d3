use Rattle.std.proofs.Common.{◌++◌, ap}
use Rattle.std.specs.Prelude.{option_map}
use Rattle.caldate_run.proofs.PieceOuts.{piece_out}
use Rattle.caldate_run.proofs.run.pieces.push_piece.Goals as goal

pub returns-clause-out : goal.returns-clause-out
returns-clause-out c =
    let put = c.push_text-goes_out.ensures.out in
    let parts = piece_out c.args.piece.now.kept _ _ _ _ put.0 _ _ c.len-start.ensures c.push_kept.ensures put.1 put.2 c.keep.ensures in
    (_, parts.0, parts.1, (put.3.0, put.3.1, put.3.2, ap (option_map (λ words. c.args.piece.now.kept ++ words)) put.3.3))
