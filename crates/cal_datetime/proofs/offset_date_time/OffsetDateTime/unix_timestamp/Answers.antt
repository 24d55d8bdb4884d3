use Rattle.std.proofs.Common.{◌∙◌, arith, pos, ◌+ℤ◌, ◌*ℤ◌, ◌-ℤ◌, FitsSigned, w64}
use Rattle.std.proofs.lemmas.Int.{ints, to_z-of_z}
use Rattle.cal_datetime.proofs.Instants.{unix_seconds-is, unix_seconds-whole}
use Rattle.cal_datetime.proofs.offset_date_time.OffsetDateTime.unix_timestamp.Goals as goal

pub returns-clause-value : goal.returns-clause-value
returns-clause-value c =
    let day = c.days_since_epoch.ensures in
    let clock = c.seconds_since_midnight.ensures in
    let offset = c.offset_seconds.ensures in
    let days = c.days_since_epoch.result in
    let past = c.seconds_since_midnight.result in
    let ahead = c.offset_seconds.result in
    let a : FitsSigned w64 days = omega (arith, ints, day.range) in
    let b : FitsSigned w64 past = omega (arith, ints, clock.range) in
    let o : FitsSigned w64 ahead = omega (arith, ints, offset.min, offset.max) in
    let m : FitsSigned w64 (days *ℤ pos 86_400) = omega (arith, ints, day.range) in
    let s : FitsSigned w64 (days *ℤ pos 86_400 +ℤ past) = omega (arith, ints, day.range, clock.range) in
    let e : FitsSigned w64 ((days *ℤ pos 86_400 +ℤ past) -ℤ ahead) = omega (arith, ints, day.range, clock.range, offset.min, offset.max) in
    simp to_z-of_z (unix_seconds-is c.args.self _ c.date.result c.time.result
    (rw (c.date.ensures.value, c.time.ensures.value) c.time.ensures.whole)
    (omega (arith, ints, day.value, clock.value, offset.value, c.offset.ensures.value)))

pub returns-clause-every : goal.returns-clause-every
returns-clause-every c = λ seconds e. returns-clause-value c ∙ unix_seconds-whole _ seconds e

pub overflow_sub-result : goal.overflow_sub-result
overflow_sub-result c =
    let day = c.days_since_epoch.ensures in
    let clock = c.seconds_since_midnight.ensures in
    let offset = c.offset_seconds.ensures in
    let days = c.days_since_epoch.result in
    let past = c.seconds_since_midnight.result in
    let a : FitsSigned w64 days = omega (arith, ints, day.range) in
    let b : FitsSigned w64 past = omega (arith, ints, clock.range) in
    let o : FitsSigned w64 c.offset_seconds.result = omega (arith, ints, offset.min, offset.max) in
    let m : FitsSigned w64 (days *ℤ pos 86_400) = omega (arith, ints, day.range) in
    let s : FitsSigned w64 (days *ℤ pos 86_400 +ℤ past) = omega (arith, ints, day.range, clock.range) in
    simp to_z-of_z (omega (arith, ints, day.range, clock.range, offset.min, offset.max))
