use Rattle.std.proofs.Common.{◌-ℤ◌, arith}
use Rattle.std.proofs.lemmas.Int.{ints}
use Rattle.cal_clock.specs.Time.{carry}
use Rattle.cal_span.specs.SignedDuration.{whole_days}
use Rattle.cal_date.proofs.Moves.{clamped_date-inside}
use Rattle.cal_time.proofs.Pairs.{lies_before, pair_at, no_pair, along-sub, stays_outside}
use Rattle.cal_time.proofs.pair.sub_from_pair.Goals as goal

pub returns-in_err-checked_sub : goal.returns-in_err-checked_sub
returns-in_err-checked_sub c =
    let a = c.adjusting_sub-adjustment in
    let k = carry a.result.0 -ℤ whole_days c.args.duration in
    let at = lies_before c.args.date c.args.time c.args.duration k a.result.1 a.ensures.range a.ensures.value in
    let along = along-sub c.args.date c.args.duration (carry a.result.0) a.ensures.backward a.ensures.forward in
    let outside = stays_outside _ _ _ c.checked_sub.ensures.in_range along c.in_err-checked_sub.ensures.value in
    rw c.from_residual.ensures (no_pair _ c.args.date k a.result.1 _ at (omega (arith, ints)) outside)

pub returns-in_err-date : goal.returns-in_err-date
returns-in_err-date c =
    let a = c.adjusting_sub-adjustment in
    let k = carry a.result.0 -ℤ whole_days c.args.duration in
    let at = lies_before c.args.date c.args.time c.args.duration k a.result.1 a.ensures.range a.ensures.value in
    let day = c.in_ok-checked_sub.ensures.value in
    let stop = clamped_date-inside _ day.0 in
    rw c.from_residual-in_err-date.ensures (no_pair _ c.args.date k a.result.1 _ at (omega (arith, ints, day.1, stop)) c.in_err-date.ensures)

pub returns : goal.returns
returns c =
    let a = c.adjusting_sub-adjustment in
    let k = carry a.result.0 -ℤ whole_days c.args.duration in
    let at = lies_before c.args.date c.args.time c.args.duration k a.result.1 a.ensures.range a.ensures.value in
    let day = c.in_ok-checked_sub.ensures.value in
    let stop = clamped_date-inside _ day.0 in
    let end = clamped_date-inside _ c.in_ok-date.ensures.0 in
    pair_at _ c.args.date k a.result.1 c.in_ok-date.date at (omega (arith, ints, c.in_ok-date.ensures.1, c.in_ok-date.ensures.0, end)) (omega (arith, ints, day.1, stop, c.in_ok-date.ensures.1, end))

pub adjust_date-requires : goal.adjust_date-requires
adjust_date-requires c = let day = c.in_ok-checked_sub.ensures.value in omega (arith, ints, day.1, day.0, clamped_date-inside _ day.0)
