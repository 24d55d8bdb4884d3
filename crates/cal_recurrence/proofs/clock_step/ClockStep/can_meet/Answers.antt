use Rattle.std.proofs.Common.{◌≡◌, arith, inl, inr, false}
use Rattle.std.specs.Prelude.{◌&&◌}
use Rattle.std.proofs.lemmas.Bool.{cases_lt}
use Rattle.std.proofs.lemmas.Int.{ints}
use Rattle.cal_time.specs.SignedDuration.{day}
use Rattle.cal_datetime.specs.DateTime.{time_at}
use Rattle.cal_recurrence.specs.ClockSearch.{can_match}
use Rattle.cal_recurrence.specs.TimesOfDay.{matches_time}
use Rattle.cal_recurrence.proofs.ClockSearches.{never-meets, on-times}
use Rattle.cal_recurrence.proofs.clock_step.ClockStep.can_meet.Goals as goal

pub returns : goal.returns
returns c = λ e.
    let step = c.args.self.now in
    let times = c.args.times.now in
    let start = c.args.start in
    let g = c.in-Some.divisor in
    let rest = on-times times (time_at start) c.time-own.result (can_match step times start g) c.loop-time.from day c.time-own.ensures.value c.in_default-next_time.ensures in
    never-meets step times start g (omega (arith, ints, c.time-own.ensures.in_range.not_before)) c.in-Some.ensures (λ k low high. elim (cases_lt k c.loop-time.from) as (λ _. (matches_time times (time_at start) k && can_match step times start g k) ≡ false) [
      | inl less ↦ c.loop-time.invariant.none k low less
      | inr most ↦ rest k most high
    ])
