use Rattle.std.proofs.Common.{◌≡◌, sym, subst, arith, rules}
use Rattle.std.specs.Str.{IsAscii}
use Rattle.std.proofs.lemmas.Int.{ints}
use Rattle.cal_units.specs.MonthCycle.{index-below}
use Rattle.cal_date.specs.DateText.{text}
use Rattle.cal_date.proofs.DateTexts.{text-ascii}
use Rattle.cal_date.proofs.date.Date.text.Goals as goal

pub returns-clause-ascii : goal.returns-clause-ascii
returns-clause-ascii c =
    let n = c.args.self in
    let parts = c.month_and_day-month.ensures in
    let same : c.push_two_digits-2.new.self ≡ text n = search rules in
    subst IsAscii (sym same) (text-ascii n (omega (arith, ints, c.year.ensures.range, c.year.ensures.value)) (omega (arith, parts.month, index-below c.month_and_day-month.result.0)) (omega (arith, parts.day, parts.max)))
