use Rattle.std.proofs.Common.{List, subst}
use Rattle.std.proofs.lemmas.Option.{none-some}
use Rattle.cal_format.specs.declared.item.Item.{Item}
use Rattle.cal_format.specs.Moment.{moment_of_time}
use Rattle.cal_named_format.specs.Values.{HoldsTime}
use Rattle.cal_c.specs.NamedFormats.{IsReadWith}
use Rattle.cal_c.specs.FormatParsing.{parsed_time_ok, parsed_time_error_at}
use Rattle.cal_c.proofs.FormatItems.{at_items}
use Rattle.cal_c.proofs.formats.named.parsing.fots_time_parse_names.Goals as goal

pub returns-clause-value : goal.returns-clause-value
returns-clause-value c _ items has determines =
    let t = c.in-Some-to_names.value in
    let P : List Item → Type 0 = λ xs. IsReadWith HoldsTime moment_of_time parsed_time_ok parsed_time_error_at c.args.text.now t xs c.parse_time.result in
    (t, c.in-Some-to_names.ensures.0, at_items P c.to_format.result c.in-Some.value items c.in-Some.is (c.to_format.ensures.every items has) (subst P c.in-Some-for_times.ensures.same c.parse_time.ensures))

pub returns-in-None-clause-invalid_names : goal.returns-in-None-clause-invalid_names
returns-in-None-clause-invalid_names c is _ = absurd (none-some is.0 (c.in-None.ensures.every is.0 is.1))
