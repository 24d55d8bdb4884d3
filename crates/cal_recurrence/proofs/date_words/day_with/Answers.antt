use Rattle.std.proofs.Common.{◌∙◌, ◌/◌, ◌<◌, arith, w32}
use Rattle.std.proofs.lemmas.Int.{to_z_pos}
use Rattle.cal_recurrence.proofs.Dates.{found, no_month}
use Rattle.cal_recurrence.proofs.date_words.day_with.Goals as goal

pub returns-in_default : goal.returns-in_default
returns-in_default c = no_month c.args.number c.in_default.ensures.1

pub returns : goal.returns
returns c =
    let date = c.from_calendar_date.ensures in
    let small : c.args.number < 4294967296 = omega (arith, c.ranges.number.fits) in
    c.ok.ensures.value
    ∙ found c.args.number _ c.in-Ok.month c.from_calendar_date.result (to_z_pos w32 (c.args.number / 10000) (omega (arith, small))) c.in-Ok.ensures date.every date.value date.error.0
