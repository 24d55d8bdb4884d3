use Rattle.std.proofs.Common.{◌≡◌, ◌∙◌, List, subst, rules, FitsSigned, w32}
use Rattle.std.proofs.lemmas.Int.{to_z-of_z}
use Rattle.cal_format.specs.declared.item.Item.{Item}
use Rattle.cal_format.specs.declared.lenient.LenientFormat.{LenientFormat}
use Rattle.cal_format.specs.Lenient.{IsLenientRejection}
use Rattle.cal_c.specs.FormatParsing.{IsParsed, parsed_pair_ok}
use Rattle.cal_c.specs.LenientParsing.{lenient_of, IsVariantOfPair}
use Rattle.cal_c.specs.Texts.{parsed_moment_error_at}
use Rattle.cal_c.proofs.FormatItems.{at_items}
use Rattle.cal_c.proofs.formats.lenient.fots_pair_parse_leniently.Goals as goal

pub returns-clause-value : goal.returns-clause-value
returns-clause-value c items has reads =
    let text = c.args.text.now in
    let P : LenientFormat → Type 0 = λ f. IsParsed (IsVariantOfPair f text) (IsLenientRejection f text) parsed_pair_ok parsed_moment_error_at c.parse_pair.result in
    let Q : List Item → Type 0 = λ xs. P (lenient_of xs c.args.pivot) in
    let fits : FitsSigned w32 c.args.pivot = search rules in
    let made : c.lenient.result ≡ lenient_of c.in-Some.value c.args.pivot = simp to_z-of_z at c.lenient.ensures in
    at_items Q c.to_format.result c.in-Some.value items c.in-Some.is (c.to_format.ensures.every items has) (subst P (c.in-Some-for_date_times.ensures.same ∙ made) c.parse_pair.ensures)
