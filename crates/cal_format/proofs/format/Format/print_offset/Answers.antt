use Rattle.std.proofs.Common.{sym, ◌∙◌}
use Rattle.std.specs.Prelude.{IsTrue}
use Rattle.cal_format.specs.Reading.{are_offset_items}
use Rattle.cal_format.proofs.Printing.{printed-under}
use Rattle.cal_format.proofs.format.Format.print_offset.Goals as goal

pub returns : goal.returns
returns c =
    let shows : IsTrue (are_offset_items c.args.self.now) = sym c.is_within.ensures ∙ c.if-not-is_within.false in
    let printed = rw c.of_offset.ensures at c.print.ensures in
    printed-under _ _ _ _ _ shows printed
