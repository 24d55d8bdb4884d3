use Rattle.std.proofs.Common.{List, refl, subst}
use Rattle.std.proofs.lemmas.Option.{none-some}
use Rattle.cal_format.specs.declared.item.Item.{Item}
use Rattle.cal_format.specs.Reading.{DeterminesOffsetDateTime}
use Rattle.cal_format.specs.Moment.{moment_of_offset_date_time}
use Rattle.cal_named_format.specs.Values.{HoldsOffsetDateTime}
use Rattle.cal_c.specs.NamedFormats.{IsReadWith}
use Rattle.cal_c.specs.Texts.{parsed_moment_ok, parsed_moment_error_at}
use Rattle.cal_c.proofs.FormatItems.{at_items}
use Rattle.cal_c.proofs.formats.named.parsing.fots_moment_parse_names.Goals as goal

pub returns-clause-value : goal.returns-clause-value
returns-clause-value c _ items has determines =
    let t = c.in-Some-to_names.value in
    let P : List Item → Type 0 = λ xs. IsReadWith HoldsOffsetDateTime moment_of_offset_date_time parsed_moment_ok parsed_moment_error_at c.args.text.now t xs c.parse_moment.result in
    (t, c.in-Some-to_names.ensures.0, at_items P c.to_format.result c.in-Some.value items c.in-Some.is (c.to_format.ensures.every items has) (subst P c.in-Some-for_offset_date_times.ensures.same c.parse_moment.ensures))

pub returns-in-None-clause-invalid_names : goal.returns-in-None-clause-invalid_names
returns-in-None-clause-invalid_names c is _ = absurd (none-some is.0 (c.in-None.ensures.every is.0 is.1))

pub returns-clause-insufficient_format : goal.returns-clause-insufficient_format
returns-clause-insufficient_format c _ items has never =
    absurd (never (at_items DeterminesOffsetDateTime c.to_format.result c.in-Some.value items c.in-Some.is (c.to_format.ensures.every items has) (c.in-Some-for_offset_date_times.ensures.determines.0 refl)))
