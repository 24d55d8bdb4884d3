use Rattle.std.proofs.Common.{◌≡◌, to_z, of_z, w32}
use Rattle.std.proofs.lemmas.Int.{to_z-of_z}
use Rattle.caltool.proofs.FindsDate.{finds_julian_day}
use Rattle.caltool.proofs.find.find_julian_day.Goals as goal

pub returns : goal.returns
returns c =
    let same : to_z w32 (of_z w32 c.args.julian_day) ≡ c.args.julian_day = to_z-of_z w32 c.args.julian_day c.ranges.julian_day in
    let is = rw same at c.from_julian_day.ensures in
    finds_julian_day c.args.julian_day c.from_julian_day.result is.every is.value is.error_kind
