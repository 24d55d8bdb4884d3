use Rattle.std.proofs.Common.{◌≡◌, to_z, of_z, w32}
use Rattle.std.proofs.lemmas.Int.{to_z-of_z}
use Rattle.caltool.proofs.FindsDate.{finds_calendar_date}
use Rattle.caltool.proofs.find.find_date_of_month.Goals as goal

pub returns : goal.returns
returns c =
    let same : to_z w32 (of_z w32 c.args.year) ≡ c.args.year = to_z-of_z w32 c.args.year c.ranges.year in
    let is = rw same at c.from_calendar_date.ensures in
    finds_calendar_date c.args.year c.args.month c.args.day c.from_calendar_date.result is.every is.value is.error_kind is.year is.day
