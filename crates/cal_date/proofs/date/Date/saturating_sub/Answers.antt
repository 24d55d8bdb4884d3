use Rattle.std.proofs.Common.{◌∙◌, ◌-ℤ◌, sym, pos, arith}
use Rattle.std.proofs.lemmas.Int.{ints}
use Rattle.std.proofs.lemmas.Bool.Decides.{nat_tests}
use Rattle.cal_span.specs.SignedDuration.{whole_days}
use Rattle.cal_date.specs.DateLimits.{MIN-number, MAX-number}
use Rattle.cal_date.proofs.Moves.{clamped_date-before, clamped_date-after, whole_days-negative, whole_days-not_negative}
use Rattle.cal_date.proofs.date.Date.saturating_sub.Goals as goal

pub returns-in-None-clause-value : goal.returns-in-None-clause-value
returns-in-None-clause-value c =
    let z = pos c.args.self -ℤ whole_days c.args.duration in
    let back = whole_days-negative c.args.duration (grind (arith, ints, nat_tests)) in
    MAX-number ∙ sym (clamped_date-after z (omega (arith, ints, c.checked_sub.ensures.in_range)) c.in-None.ensures.value)

pub returns-in-None-2-clause-value : goal.returns-in-None-2-clause-value
returns-in-None-2-clause-value c =
    let z = pos c.args.self -ℤ whole_days c.args.duration in
    let on = whole_days-not_negative c.args.duration (grind (arith, ints, nat_tests)) in
    MIN-number ∙ sym (clamped_date-before z (omega (arith, ints, c.checked_sub.ensures.in_range)) c.in-None-2.ensures.value)
