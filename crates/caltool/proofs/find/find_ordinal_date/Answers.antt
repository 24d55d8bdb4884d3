use Rattle.std.proofs.Common.{◌≡◌, to_z, of_z, w32}
use Rattle.std.proofs.lemmas.Int.{to_z-of_z}
use Rattle.caltool.proofs.FindsDate.{finds_ordinal_date}
use Rattle.caltool.proofs.find.find_ordinal_date.Goals as goal

pub returns : goal.returns
returns c =
    let same : to_z w32 (of_z w32 c.args.year) ≡ c.args.year = to_z-of_z w32 c.args.year c.ranges.year in
    let is = rw same at c.from_ordinal_date.ensures in
    finds_ordinal_date c.args.year c.args.ordinal c.from_ordinal_date.result is.every is.value is.error_kind is.year is.ordinal
