use Rattle.std.proofs.Common.{arith, ◌≡◌, pos, ◌+ℤ◌, ◌*ℤ◌, FitsSigned, w32, w64}
use Rattle.std.specs.Int.{w128}
use Rattle.std.proofs.lemmas.Int.{ints, to_z-of_z}
use Rattle.cal_time.specs.SignedDuration.{second}
use Rattle.cal_datetime.specs.UnixTimeLaws.{seconds-and_past}
use Rattle.cal_datetime.proofs.offset_date_time.OffsetDateTime.from_unix_timestamp_nanos.Goals as goal

pub returns-in-Ok-clause-error : goal.returns-in-Ok-clause-error
returns-in-Ok-clause-error c =
    let f = c.ranges.timestamp in
    let cut = seconds-and_past c.args.timestamp in
    let x = simp to_z-of_z at c.div_euclid.ensures in
    let y = simp to_z-of_z at c.rem_euclid-nanoseconds.ensures.value in
    let past = c.rem_euclid-nanoseconds.result in
    let i : FitsSigned w32 past = omega (arith, ints, c.rem_euclid-nanoseconds.ensures.lower_bound, c.rem_euclid-nanoseconds.ensures.upper_bound) in
    let j : FitsSigned w128 past = omega (arith, ints, i.sfits) in
    let k : FitsSigned w128 c.div_euclid.result = omega (arith, ints, cut, x, y, f.sfits) in
    let s = simp to_z-of_z at c.in-Ok.ensures in
    let l : FitsSigned w64 c.in-Ok.seconds = rw s.1 s.0 in
    let r = simp to_z-of_z at c.date_time_at_utc.ensures.error in
    let e : c.in-Ok.seconds *ℤ pos second +ℤ past ≡ c.args.timestamp = omega (arith, ints, cut, x, y, s.1) in
    rw e at r
