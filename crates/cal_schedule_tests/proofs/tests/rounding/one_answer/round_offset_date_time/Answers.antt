use Rattle.std.specs.Prelude.{ℤ}
use Rattle.cal_datetime.specs.OffsetDateTime.{LocalAndOffset}
use Rattle.cal_rounding.proofs.OneResult.{date_time-one}
use Rattle.cal_schedule_tests.proofs.tests.rounding.one_answer.round_offset_date_time.Goals as goal

abbrev at_offset : ℤ → ℤ → LocalAndOffset
at_offset offset z = record { local = z; offset = offset }

pub returns : goal.returns
returns c = date_time-one _ _ _ (at_offset c.args.moment.offset) _ _ c.length.ensures.range.positive c.round_offset_date_time.ensures c.round_offset_date_time-2.ensures
