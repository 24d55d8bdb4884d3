use Rattle.std.proofs.Common.{◌≡◌, ◌∙◌, ap, subst, arith, w64}
use Rattle.std.proofs.lemmas.Int.{ints, to_z-of_z}
use Rattle.std.specs.Prelude.{ℤ}
use Rattle.cal_datetime.specs.OffsetDateTime.{instant, local_at, unix_seconds}
use Rattle.cal_zone.specs.Timeline.{offset_at}
use Rattle.cal_c.specs.Moments.{moment_ok, IsMomentOrError}
use Rattle.cal_c.specs.declared.status.TheConstants.{RESULT_OUT_OF_RANGE}
use Rattle.cal_c.proofs.zones.offsets.moment_in_zone.Goals as goal

pub returns-in-None-moved : goal.returns-in-None-moved
returns-in-None-moved c = λ order.
    let at : c.in-Some.value ≡ offset_at c.args.zone.now (unix_seconds (instant c.args.moment)) = c.in-Some.ensures.some order
    ∙ ap (offset_at c.args.zone.now) (to_z-of_z w64 c.unix_timestamp.result (omega (arith, ints)) ∙ c.unix_timestamp.ensures.value) in
    subst (λ (o : ℤ). IsMomentOrError RESULT_OUT_OF_RANGE (local_at (instant c.args.moment) o) o c.error-in-None-moved.result) at
    (record { none = λ out. c.error-in-None-moved.ensures; moment = λ is. absurd (c.in-None-moved.ensures.value is) })

pub returns : goal.returns
returns c = λ order.
    let at : c.in-Some.value ≡ offset_at c.args.zone.now (unix_seconds (instant c.args.moment)) = c.in-Some.ensures.some order
    ∙ ap (offset_at c.args.zone.now) (to_z-of_z w64 c.unix_timestamp.result (omega (arith, ints)) ∙ c.unix_timestamp.ensures.value) in
    let found = c.in-Some-moved.ensures.value in
    subst (λ (o : ℤ). IsMomentOrError RESULT_OUT_OF_RANGE (local_at (instant c.args.moment) o) o c.ok.result) at
    (record { none = λ out. absurd (out found.0); moment = λ is. c.ok.ensures ∙ ap moment_ok found.1 })
