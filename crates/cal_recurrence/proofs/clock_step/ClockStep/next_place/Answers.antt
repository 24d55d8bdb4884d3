use Rattle.std.proofs.Common.{◌+◌, ◌-◌, ◌*◌, ◌/◌, ◌%◌, ◌<◌, ◌∙◌, refl, inl, inr, arith}
use Rattle.std.proofs.lemmas.Bool.{cases_lt}
use Rattle.std.proofs.lemmas.Int.{ints}
use Rattle.cal_time.specs.Date.{last_day}
use Rattle.cal_time.specs.SignedDuration.{day}
use Rattle.cal_recurrence.proofs.ClockSearches.{next-place, place-is, IsPlace}
use Rattle.cal_recurrence.proofs.clock_step.ClockStep.next_place.Goals as goal

pub returns-then-past-eq0 : goal.returns-then-past-eq0
returns-then-past-eq0 c = (
  c.index-at.ensures.in_range,
  omega (arith, c.nanoseconds.ensures.max),
  omega (arith, c.nanoseconds.ensures.value),
  λ k low high none. omega (arith, low, high, c.nanoseconds.ensures.value),
)

pub returns-in_default : goal.returns-in_default
returns-in_default c =
    let step = c.args.self.now in
    let x = c.args.date * day + c.args.time in
    let q = c.index-at.result + (c.from-interval.result - c.periods_past-past.result) in
    let second = q * c.seconds.result in
    let place : IsPlace step c.args.start x q =
    next-place step c.args.start x c.index-at.result c.from-interval.result c.periods_past-past.result q c.requires (omega (arith, ints, c.date.ensures.in_range.not_before)) c.index-at.ensures.value
    (c.from-interval.ensures ∙ c.max.ensures) c.periods_past-past.ensures (omega (arith, c.if-past-eq0.false)) refl in
    let at = place-is step.unit q c.seconds.result second (second / 86_400) (second % 86_400 * 1_000_000_000) c.seconds.ensures.value refl refl refl in
    let late : last_day < second / 86_400 = elim (cases_lt last_day (second / 86_400)) as (λ _. last_day < second / 86_400) [
      | inl less ↦ less
      | inr most ↦ absurd (c.in_default.ensures most)
    ] in
    λ k low high. place.none k low (omega (arith, high, at, late))

pub returns : goal.returns
returns c =
    let step = c.args.self.now in
    let x = c.args.date * day + c.args.time in
    let q = c.index-at.result + (c.from-interval.result - c.periods_past-past.result) in
    let second = q * c.seconds.result in
    let place : IsPlace step c.args.start x q =
    next-place step c.args.start x c.index-at.result c.from-interval.result c.periods_past-past.result q c.requires (omega (arith, ints, c.date.ensures.in_range.not_before)) c.index-at.ensures.value
    (c.from-interval.ensures ∙ c.max.ensures) c.periods_past-past.ensures (omega (arith, c.if-past-eq0.false)) refl in
    let at = place-is step.unit q c.seconds.result second c.in-Some.day (second % 86_400 * 1_000_000_000) c.seconds.ensures.value refl c.in-Some.ensures.1 refl in
    (omega (arith, c.in-Some.ensures.0, c.in-Some.ensures.1), omega arith, omega (arith, at, place.past), λ k low high. place.none k low (omega (arith, high, at)))
