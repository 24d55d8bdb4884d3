use Rattle.std.proofs.Common.{sym, ◌∙◌}
use Rattle.cal_format.specs.Reading.{are_moment_items}
use Rattle.cal_format.proofs.Choices.{not-false}
use Rattle.cal_format.proofs.Printing.{printed-under}
use Rattle.cal_format.proofs.format.Format.print_offset_date_time.Goals as goal

pub returns : goal.returns
returns c =
    let shows = not-false (are_moment_items c.args.self.now) (sym c.shows_abbreviation.ensures ∙ c.if-shows_abbreviation.false) in
    let printed = rw c.of_offset_date_time.ensures at c.print.ensures in
    printed-under _ _ _ _ _ shows printed
