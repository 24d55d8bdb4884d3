use Rattle.std.proofs.Common.{rules}
use Rattle.cal_c.proofs.date.arithmetic.fots_date_add_days.Goals as goal

pub returns : goal.returns
returns c = record { invalid_date = search rules; day = λ is. record { result_out_of_range = search rules; day = search rules } }
