use Rattle.std.proofs.Common.{List, subst}
use Rattle.std.proofs.lemmas.Option.{none-some}
use Rattle.cal_format.specs.declared.item.Item.{Item}
use Rattle.cal_format.specs.Moment.{moment_of_date_time}
use Rattle.cal_named_format.specs.Values.{HoldsDateTime}
use Rattle.cal_c.specs.NamedFormats.{IsReadWith}
use Rattle.cal_c.specs.FormatParsing.{parsed_pair_ok}
use Rattle.cal_c.specs.Texts.{parsed_moment_error_at}
use Rattle.cal_c.proofs.FormatItems.{at_items}
use Rattle.cal_c.proofs.formats.named.parsing.fots_pair_parse_names.Goals as goal

pub returns-clause-value : goal.returns-clause-value
returns-clause-value c _ items has determines =
    let t = c.in-Some-to_names.value in
    let P : List Item → Type 0 = λ xs. IsReadWith HoldsDateTime moment_of_date_time parsed_pair_ok parsed_moment_error_at c.args.text.now t xs c.parse_pair.result in
    (t, c.in-Some-to_names.ensures.0, at_items P c.to_format.result c.in-Some.value items c.in-Some.is (c.to_format.ensures.every items has) (subst P c.in-Some-for_date_times.ensures.same c.parse_pair.ensures))

pub returns-in-None-clause-invalid_names : goal.returns-in-None-clause-invalid_names
returns-in-None-clause-invalid_names c is _ = absurd (none-some is.0 (c.in-None.ensures.every is.0 is.1))
