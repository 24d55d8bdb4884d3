use Rattle.std.proofs.Common.{sym, ◌∙◌}
use Rattle.std.specs.Prelude.{IsTrue}
use Rattle.cal_format.specs.Reading.{are_time_items}
use Rattle.cal_format.proofs.Printing.{printed-under}
use Rattle.cal_format.proofs.format.Format.print_time.Goals as goal

pub returns : goal.returns
returns c =
    let shows : IsTrue (are_time_items c.args.self.now) = sym c.is_within.ensures ∙ c.if-not-is_within.false in
    let printed = rw c.of_time.ensures at c.print.ensures in
    printed-under _ _ _ _ _ shows printed
