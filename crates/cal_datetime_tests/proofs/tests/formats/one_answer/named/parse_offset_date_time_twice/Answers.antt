use Rattle.std.proofs.Common.{refl, subst}
use Rattle.cal_format.specs.Moment.{moment_of_offset_date_time}
use Rattle.cal_named_format.specs.Ambiguity.{ReadBack}
use Rattle.cal_named_format.specs.Values.{HoldsOffsetDateTime}
use Rattle.cal_datetime_tests.proofs.OneNamedAnswer.{one-answer-in}
use Rattle.cal_datetime_tests.proofs.tests.formats.one_answer.named.parse_offset_date_time_twice.Goals as goal

pub returns : goal.returns
returns c =
    let items = c.in_ok-format.format in
    let reads = subst (ReadBack c.args.names.now) c.as_format.ensures.items (c.if-not-reads_back.ensures refl) in
    one-answer-in (HoldsOffsetDateTime items) moment_of_offset_date_time c.args.names.now items c.args.text.now _ _ c.table_counts.ensures reads c.parse_offset_date_time.ensures c.parse_offset_date_time-2.ensures
