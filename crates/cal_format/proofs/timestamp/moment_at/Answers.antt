use Rattle.std.proofs.Common.{◌≡◌, refl, sym, ◌∙◌, arith}
use Rattle.std.proofs.lemmas.Int.{ints}
use Rattle.std.specs.Prelude.{Some}
use Rattle.cal_format.specs.Moment.{timestamp_of}
use Rattle.cal_format.proofs.Outcomes.{same-value}
use Rattle.cal_format.proofs.timestamp.moment_at.Goals as goal

pub returns-clause-every : goal.returns-clause-every
returns-clause-every c v h offset seconds nanosecond =
    let clock = same-value _ _ c.in_ok-time.ensures in
    let below = h.time.below_day in
    let d : c.in_ok-date.date ≡ v.date = omega (arith, ints, c.in_ok-date.ensures.value.1, offset, seconds ∙ sym c.signed-timestamp.ensures.value, c.whole_seconds.ensures.value) in
    let t : c.in_ok-time.time ≡ v.time = omega (arith, ints, clock, offset, seconds ∙ sym c.signed-timestamp.ensures.value, nanosecond, c.whole_seconds.ensures.value) in
    λ i. Some (record { date = d i; time = t i; offset = sym offset i })

pub returns-clause-value : goal.returns-clause-value
returns-clause-value c =
    let clock = same-value _ _ c.in_ok-time.ensures in
    let day = c.in_ok-date.ensures.value.1 in
    let same : timestamp_of (record { date = c.in_ok-date.date; time = c.in_ok-time.time; offset = c.args.offset }) ≡ c.signed-timestamp.result = omega (arith, ints, day, clock, c.whole_seconds.ensures.value) in (
      record { date = c.in_ok-date.ensures.value.0; time = record { below_day = omega (arith, ints, clock) }; offset = c.whole_seconds.ensures.range },
      refl,
      same ∙ c.signed-timestamp.ensures.value,
      omega (arith, ints, clock),
    )
