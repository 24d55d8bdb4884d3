use Rattle.cal_names.proofs.Fronts.{ends-before, ends-last}
use Rattle.cal_names.proofs.table.reads_back.Goals as goal

pub returns-clause-before : goal.returns-clause-before
returns-clause-before c = ends-before

pub returns-clause-last : goal.returns-clause-last
returns-clause-last c = ends-last
