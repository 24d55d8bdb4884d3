use Rattle.std.proofs.Common.{List, subst}
use Rattle.cal_format.specs.declared.item.Item.{Item}
use Rattle.cal_format.specs.Rejection.{IsRejection}
use Rattle.cal_c.specs.FormatParsing.{IsParsed, IsTextOfOffset, parsed_offset_ok, parsed_offset_error_at}
use Rattle.cal_c.proofs.FormatItems.{at_items}
use Rattle.cal_c.proofs.formats.parsing.fots_offset_parse_format.Goals as goal

pub returns-clause-value : goal.returns-clause-value
returns-clause-value c items has determines =
    let text = c.args.text.now in
    let P : List Item → Type 0 = λ xs. IsParsed (IsTextOfOffset xs text) (IsRejection xs text) parsed_offset_ok parsed_offset_error_at c.parse_offset.result in
    at_items P c.to_format.result c.in-Some.value items c.in-Some.is (c.to_format.ensures.every items has) (subst P c.in-Some-for_offsets.ensures.same c.parse_offset.ensures)
