use Rattle.std.proofs.Common.{Ok, Err, refl}
use Rattle.caldate_answers.proofs.answer.reasons.why_unmoved.Goals as goal

pub returns-in-Ok : goal.returns-in-Ok
returns-in-Ok c = (Ok c.in-Ok.field-0, c.in-Ok.ensures, refl)

pub returns-in-Err : goal.returns-in-Err
returns-in-Err c = (Err c.in-Err.error, c.in-Err.ensures, c.why_rejected.ensures)
