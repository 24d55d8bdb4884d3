use Rattle.std.proofs.Common.{arith}
use Rattle.caldate_run.proofs.Replied.{weaker}
use Rattle.caldate_run.proofs.run.pieces.push_fields.Goals as goal

pub returns-clause-answered : goal.returns-clause-answered
returns-clause-answered c =
    weaker _ _ _ _ _ (λ out h. (c.push_fields_from-goes_out.result.1, h, c.reason_of.ensures)) c.push_fields_from-goes_out.ensures.out

pub push_fields_from-goes_out-requires-clause-room : goal.push_fields_from-goes_out-requires-clause-room
push_fields_from-goes_out-requires-clause-room c = omega (arith, c.requires.room, c.requires.few, c.requires.fits)
