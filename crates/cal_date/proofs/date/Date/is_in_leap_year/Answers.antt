use Rattle.cal_date.proofs.Neighbours.{low_bits-leap}
use Rattle.cal_date.proofs.date.Date.is_in_leap_year.Goals as goal

pub returns-clause-value : goal.returns-clause-value
returns-clause-value c = low_bits-leap c.args.self c.low_bits.result c.low_bits.ensures.in_range c.low_bits.ensures.value
