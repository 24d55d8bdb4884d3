use Rattle.std.proofs.Common.{arith, rules}
use Rattle.cal_format.specs.Moment.{IsMoment, moment_of_date}
use Rattle.cal_format.proofs.Lengths.{text-short}
use Rattle.cal_c.proofs.FormatItems.{no_some}
use Rattle.cal_c.proofs.columns.texts.formats.print_row.Goals as goal

pub returns-in-Some-clause-max_length : goal.returns-in-Some-clause-max_length
returns-in-Some-clause-max_length c =
    let moment : IsMoment (moment_of_date c.args.date) = record { date = search rules; time = search rules; offset = search rules } in
    omega (arith, text-short c.args.format.now (moment_of_date c.args.date) moment, c.in-Some.ensures.end)

pub returns-in-None-clause-value : goal.returns-in-None-clause-value
returns-in-None-clause-value c shown =
    let moment : IsMoment (moment_of_date c.args.date) = record { date = search rules; time = search rules; offset = search rules } in
    let short = text-short c.args.format.now (moment_of_date c.args.date) moment in
    let some = c.print_date.ensures.room.1 (shown, omega (arith, short, c.requires.few, c.requires.room)) in
    absurd (no_some c.print_date.result c.in-None.is some)
