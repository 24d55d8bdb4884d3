use Rattle.cal_c.proofs.DurationErrors.{cases}
use Rattle.cal_c.proofs.laws.duration_cases.Goals as goal

pub returns : goal.returns
returns c = let read = c.parse.ensures in cases c.parse.result read.value read.syntax_error read.out_of_range
