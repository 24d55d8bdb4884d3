use Rattle.std.proofs.Common.{arith}
use Rattle.caldate_run.proofs.Unclosed.{with_returns}
use Rattle.caldate_run.proofs.run.before_returns.Goals as goal

pub returns : goal.returns
returns c = with_returns c.args.line.now _ 4098 c.copy_from_slice.ensures.after (omega (arith, c.requires))
