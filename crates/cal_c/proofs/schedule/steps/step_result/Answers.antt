use Rattle.std.proofs.Common.{ℤ, refl, sym, subst, rules, FitsSigned, w32}
use Rattle.std.proofs.lemmas.Int.{to_z-of_z}
use Rattle.cal_schedule.specs.Steps.{IsGreatestStep}
use Rattle.cal_c.specs.Schedule.{IsNumberWith}
use Rattle.cal_c.proofs.Needs.{met}
use Rattle.cal_c.proofs.Schedules.{number-with}
use Rattle.cal_c.proofs.schedule.steps.step_result.Goals as goal

pub returns : goal.returns
returns c =
    let fits : FitsSigned w32 c.in-Some.value = search rules in
    let of = simp to_z-of_z at c.ok.ensures in
    let Has : ℤ → Type 0 = IsGreatestStep c.args.start c.args.date c.args.period in
    met (c.in-Some.ensures.some.0 refl) (subst (IsNumberWith Has) (sym of) (number-with Has c.in-Some.value c.in-Some.ensures.value))
