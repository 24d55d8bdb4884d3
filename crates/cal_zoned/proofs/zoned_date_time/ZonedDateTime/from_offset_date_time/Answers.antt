use Rattle.std.proofs.Common.{refl, FitsSigned, rules}
use Rattle.std.specs.Int.{w128}
use Rattle.std.proofs.lemmas.Int.{to_z-of_z}
use Rattle.cal_datetime.specs.OffsetDateTime.{instant}
use Rattle.cal_zoned.proofs.Instants.{instant_at, answer_at}
use Rattle.cal_zoned.proofs.zoned_date_time.ZonedDateTime.from_offset_date_time.Goals as goal

pub returns : goal.returns
returns c =
    let f : FitsSigned w128 c.unix_timestamp_nanos.result = search rules in
    let h = simp to_z-of_z at c.from_unix_timestamp_nanos.ensures in
    answer_at c.args.zone.now c.args.zone.now _ _ c.from_unix_timestamp_nanos.result refl (instant_at c.unix_timestamp_nanos.result (instant c.args.moment) c.unix_timestamp_nanos.ensures) h
