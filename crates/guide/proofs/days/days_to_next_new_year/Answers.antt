use Rattle.std.proofs.Common.{arith}
use Rattle.std.proofs.lemmas.Int.{ints}
use Rattle.cal_time.specs.Components.{ordinals-apart_a_year}
use Rattle.guide.proofs.days.days_to_next_new_year.Goals as goal

pub returns : goal.returns
returns c = omega (arith, ints, ordinals-apart_a_year c.args.year c.new_year-2.result c.new_year.result)
