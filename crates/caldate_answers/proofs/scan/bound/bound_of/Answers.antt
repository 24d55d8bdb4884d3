use Rattle.caldate_answers.proofs.TextBounds.{none_longer}
use Rattle.caldate_answers.proofs.scan.bound.bound_of.Goals as goal

pub returns-clause-none : goal.returns-clause-none
returns-clause-none c = none_longer c.args.filter.now c.as_slice-readers.result.now c.args.bytes.now c.bound_in.result c.as_slice-readers.ensures c.bound_in.ensures.found c.bound_in.ensures.rejected
