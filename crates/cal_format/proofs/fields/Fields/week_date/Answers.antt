use Rattle.std.proofs.Common.{arith}
use Rattle.cal_format.proofs.Lengths.{week-range}
use Rattle.cal_format.proofs.fields.Fields.week_date.Goals as goal

pub returns-then-week-gt99-clause-every : goal.returns-then-week-gt99-clause-every
returns-then-week-gt99-clause-every c = λ n date has. absurd (omega (arith, c.if-week-gt99.true, c.get-week.ensures, (week-range n).1, has.1))
