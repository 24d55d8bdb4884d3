use Rattle.std.proofs.Common.{◌≡◌, ◌+◌, ◌*◌, ◌∙◌, arith}
use mir.Val.{bool_byte}
use Rattle.cal_date.proofs.MonthStarts.{start-is, start-most}
use Rattle.cal_date.proofs.date.calendar.month_start.Goals as goal
use Rattle.cal_date.proofs.date.calendar.month_start.Goals.{After-from-3}

place : (c : After-from-3) → 16 * c.from.result + c.from-2.result ≡ 16 * bool_byte c.args.leap + c.args.index
place c = omega (arith, c.from.ensures, c.from-2.ensures)

pub returns-clause-value : goal.returns-clause-value
returns-clause-value c = λ y same. c.from-3.ensures ∙ start-is y c.args.index c.args.leap _ (place c) same c.requires

pub returns-clause-max : goal.returns-clause-max
returns-clause-max c = rw c.from-3.ensures (start-most c.args.index c.args.leap _ (place c) c.requires)
