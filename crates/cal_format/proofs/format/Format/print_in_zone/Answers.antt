use Rattle.std.proofs.Common.{◌≤◌, length, rules}
use Rattle.cal_format.proofs.Printing.{printed-under}
use Rattle.cal_format.proofs.format.Format.print_in_zone.Goals as goal

pub returns : goal.returns
returns c =
    let few : length c.args.abbreviation.now ≤ 15 = search rules in
    let printed = rw c.of_offset_date_time.ensures at c.print.ensures in
    printed-under _ _ _ _ _ few printed
