use Rattle.cal_c.proofs.DateRanges.{yes_no-one}
use Rattle.cal_c.proofs.schedule.laws.one_range_answer.Goals as goal

pub returns : goal.returns
returns c = record { contains = λ range date r s. yes_no-one r s; overlaps = λ range other r s. yes_no-one r s }
