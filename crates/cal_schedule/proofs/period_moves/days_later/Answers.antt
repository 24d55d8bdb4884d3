use Rattle.std.proofs.Common.{ap, ◌∙◌, ℤ, pos, ◌*ℤ◌, rules, FitsSigned, w64}
use Rattle.std.proofs.lemmas.Int.{to_z-of_z}
use Rattle.cal_time.specs.SignedDuration.{day}
use Rattle.cal_schedule.proofs.Periods.{days_found, every_day}
use Rattle.cal_schedule.proofs.period_moves.days_later.Goals as goal

pub returns-clause-every : goal.returns-clause-every
returns-clause-every c r h e =
    let d = c.ranges.days in
    let f : FitsSigned w64 c.from.result = search rules in
    let is = simp to_z-of_z at c.days.ensures ∙ ap (λ (x : ℤ). x *ℤ pos day) (simp to_z-of_z at c.from.ensures) in
    every_day c.checked_add.result c.args.date r c.args.days c.days.result is c.checked_add.ensures.value c.checked_add.ensures.found h e

pub returns-clause-value : goal.returns-clause-value
returns-clause-value c =
    let d = c.ranges.days in
    let f : FitsSigned w64 c.from.result = search rules in
    let is = simp to_z-of_z at c.days.ensures ∙ ap (λ (x : ℤ). x *ℤ pos day) (simp to_z-of_z at c.from.ensures) in
    days_found c.checked_add.result c.args.date c.args.days c.days.result is c.checked_add.ensures.value c.checked_add.ensures.found
