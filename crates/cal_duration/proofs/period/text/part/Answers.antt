use Rattle.std.proofs.Common.{arith, ap, length}
use Rattle.std.proofs.lemmas.Int.{ints}
use Rattle.cal_duration.proofs.Lengths.{date_length}
use Rattle.cal_duration.proofs.period.text.part.Goals as goal

pub push_part-requires : goal.push_part-requires
push_part-requires c = omega (arith, date_length c.from.result c.args.letter.now (omega (arith, ints)), ap length c.new-text.ensures, c.requires)

pub returns-clause-max_length : goal.returns-clause-max_length
returns-clause-max_length c = omega (arith, date_length c.from.result c.args.letter.now (omega (arith, ints)), ap length c.new-text.ensures, c.requires)
