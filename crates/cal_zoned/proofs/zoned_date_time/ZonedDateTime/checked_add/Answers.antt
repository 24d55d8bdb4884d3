use Rattle.std.proofs.Common.{ap, ◌+ℤ◌, FitsSigned, rules}
use Rattle.std.specs.Int.{w128}
use Rattle.std.proofs.lemmas.Int.{to_z-of_z}
use Rattle.cal_datetime.specs.OffsetDateTime.{instant}
use Rattle.cal_zoned.specs.Zoned.{InZone}
use Rattle.cal_zoned.proofs.Instants.{duration_within, sum_at_instant, sum_fits, answer_at}
use Rattle.cal_zoned.proofs.zoned_date_time.ZonedDateTime.checked_add.Goals as goal

pub returns : goal.returns
returns c =
    let n = c.unix_timestamp_nanos.ensures in
    let d = c.whole_nanoseconds.ensures in
    let f : FitsSigned w128 c.unix_timestamp_nanos.result = search rules in
    let g : FitsSigned w128 c.whole_nanoseconds.result = search rules in
    let s : FitsSigned w128 (c.unix_timestamp_nanos.result +ℤ c.whole_nanoseconds.result) = sum_fits _ _ (instant c.args.self.now.moment) n.value n.range (duration_within _ c.args.duration d.value d.range) in
    let h = simp to_z-of_z at c.from_unix_timestamp_nanos.ensures in
    let e = sum_at_instant c.unix_timestamp_nanos.result c.whole_nanoseconds.result (instant c.args.self.now.moment) c.args.duration n.value d.value in
    answer_at _ _ _ _ c.from_unix_timestamp_nanos.result (ap (λ (v : InZone). v.zone) c.self.view_is) e h
