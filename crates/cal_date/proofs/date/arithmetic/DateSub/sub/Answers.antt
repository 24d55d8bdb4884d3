use Rattle.std.proofs.Common.{◌≡◌, ap, ◌∙◌, ◌-ℤ◌, ◌*ℤ◌, pos, to_z, of_z, w32, w64, FitsSigned, rules, arith}
use Rattle.std.proofs.lemmas.Int.{ints}
use Rattle.cal_span.specs.SignedDuration.{day}
use Rattle.cal_date.proofs.date.arithmetic.DateSub.sub.Goals as goal

pub returns : goal.returns
returns c =
    let left : FitsSigned w32 c.to_julian_day.result = search rules in
    let right : FitsSigned w32 c.to_julian_day-2.result = search rules in
    let days : to_z w64 (of_z w64 c.from.result) ≡ pos c.args.self -ℤ pos c.args.other = omega (arith, ints) in
    (c.days.ensures ∙ ap (λ z. z *ℤ pos day) days, c.to_julian_day.ensures.in_range, c.to_julian_day-2.ensures.in_range)
