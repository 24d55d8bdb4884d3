use Rattle.std.proofs.Common.{arith}
use Rattle.std.proofs.lemmas.Int.{ints}
use Rattle.cal_schedule.proofs.Untils.{leads-past}
use Rattle.cal_schedule.proofs.laws.one_more.Goals as goal

pub returns : goal.returns
returns c = leads-past _ _ _ _ _ (omega (arith, ints, c.in_ok-months.ensures)) (c.months_until.ensures.value_forward c.requires) c.checked_add_months.ensures.value
