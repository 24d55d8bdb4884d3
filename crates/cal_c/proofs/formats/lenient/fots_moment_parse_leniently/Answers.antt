use Rattle.std.proofs.Common.{◌≡◌, ◌∙◌, List, refl, subst, rules, FitsSigned, w32}
use Rattle.std.proofs.lemmas.Int.{to_z-of_z}
use Rattle.cal_format.specs.declared.item.Item.{Item}
use Rattle.cal_format.specs.declared.lenient.LenientFormat.{LenientFormat}
use Rattle.cal_format.specs.Lenient.{IsLenientRejection, ReadsOffsetDateTimes}
use Rattle.cal_c.specs.FormatParsing.{IsParsed}
use Rattle.cal_c.specs.LenientParsing.{lenient_of, IsVariantOfMoment}
use Rattle.cal_c.specs.Texts.{parsed_moment_ok, parsed_moment_error_at}
use Rattle.cal_c.proofs.FormatItems.{at_items}
use Rattle.cal_c.proofs.formats.lenient.fots_moment_parse_leniently.Goals as goal

pub returns-clause-value : goal.returns-clause-value
returns-clause-value c items has reads =
    let text = c.args.text.now in
    let P : LenientFormat → Type 0 = λ f. IsParsed (IsVariantOfMoment f text) (IsLenientRejection f text) parsed_moment_ok parsed_moment_error_at c.parse_moment.result in
    let Q : List Item → Type 0 = λ xs. P (lenient_of xs c.args.pivot) in
    let fits : FitsSigned w32 c.args.pivot = search rules in
    let made : c.lenient.result ≡ lenient_of c.in-Some.value c.args.pivot = simp to_z-of_z at c.lenient.ensures in
    at_items Q c.to_format.result c.in-Some.value items c.in-Some.is (c.to_format.ensures.every items has) (subst P (c.in-Some-for_offset_date_times.ensures.same ∙ made) c.parse_moment.ensures)

pub returns-clause-insufficient_format : goal.returns-clause-insufficient_format
returns-clause-insufficient_format c items has other =
    let Q : List Item → Type 0 = λ xs. ReadsOffsetDateTimes (lenient_of xs c.args.pivot) in
    let fits : FitsSigned w32 c.args.pivot = search rules in
    let made : c.lenient.result ≡ lenient_of c.in-Some.value c.args.pivot = simp to_z-of_z at c.lenient.ensures in
    absurd (other (at_items Q c.to_format.result c.in-Some.value items c.in-Some.is (c.to_format.ensures.every items has) (subst ReadsOffsetDateTimes made (c.in-Some-for_offset_date_times.ensures.reads.0 refl))))
