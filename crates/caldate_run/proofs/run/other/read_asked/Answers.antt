use Rattle.std.proofs.Common.{refl}
use Rattle.caldate_run.proofs.run.other.read_asked.Goals as goal

pub returns-in-Err : goal.returns-in-Err
returns-in-Err c = (refl, (_, c.in-Err.ensures.error))
