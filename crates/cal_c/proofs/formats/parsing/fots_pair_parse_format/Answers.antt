use Rattle.std.proofs.Common.{List, subst}
use Rattle.cal_format.specs.declared.item.Item.{Item}
use Rattle.cal_format.specs.Rejection.{IsRejection}
use Rattle.cal_c.specs.FormatParsing.{IsParsed, IsTextOfPair, parsed_pair_ok}
use Rattle.cal_c.specs.Texts.{parsed_moment_error_at}
use Rattle.cal_c.proofs.FormatItems.{at_items}
use Rattle.cal_c.proofs.formats.parsing.fots_pair_parse_format.Goals as goal

pub returns-clause-value : goal.returns-clause-value
returns-clause-value c items has determines =
    let text = c.args.text.now in
    let P : List Item → Type 0 = λ xs. IsParsed (IsTextOfPair xs text) (IsRejection xs text) parsed_pair_ok parsed_moment_error_at c.parse_pair.result in
    at_items P c.to_format.result c.in-Some-to_format.value items c.in-Some-to_format.is (c.to_format.ensures.every items has) (subst P c.in-Some-for_date_times.ensures.same c.parse_pair.ensures)
