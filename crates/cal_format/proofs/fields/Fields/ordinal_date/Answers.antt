use Rattle.std.proofs.Common.{arith}
use Rattle.cal_time.proofs.Dates.{ordinal-most}
use Rattle.cal_format.proofs.fields.Fields.ordinal_date.Goals as goal

pub returns-then-ordinal-gt999-clause-every : goal.returns-then-ordinal-gt999-clause-every
returns-then-ordinal-gt999-clause-every c = λ n date has. absurd (omega (arith, c.if-ordinal-gt999.true, c.get-ordinal.ensures, ordinal-most n, has.1))
