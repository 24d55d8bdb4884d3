use Rattle.std.proofs.Common.{arith}
use Rattle.cal_format.proofs.NumberSizes.{number-below}
use Rattle.cal_format.proofs.numbers_of_texts.fields_of.Goals as goal

pub returns-clause-digits : goal.returns-clause-digits
returns-clause-digits c k = omega (arith, c.fill.ensures k, number-below c.args.items.now c.args.numbers.now k c.requires.fit)
