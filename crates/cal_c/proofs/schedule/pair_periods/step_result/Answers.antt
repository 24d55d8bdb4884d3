use Rattle.std.proofs.Common.{ℤ, refl, sym, subst, rules, FitsSigned, w32}
use Rattle.std.proofs.lemmas.Bool.{false≢true}
use Rattle.std.proofs.lemmas.Int.{to_z-of_z}
use Rattle.cal_zoned.specs.Steps.{IsLastStep}
use Rattle.cal_c.specs.Schedule.{IsNumberWith}
use Rattle.cal_c.proofs.Needs.{met, unmet}
use Rattle.cal_c.proofs.Schedules.{number-with}
use Rattle.cal_c.proofs.schedule.pair_periods.step_result.Goals as goal

pub returns : goal.returns
returns c =
    let fits : FitsSigned w32 c.in-Some.value = search rules in
    let of = simp to_z-of_z at c.ok.ensures in
    let Has : ℤ → Type 0 = IsLastStep c.args.start c.args.local c.args.period in
    met (c.in-Some.ensures.some.0 refl) (subst (IsNumberWith Has) (sym of) (number-with Has c.in-Some.value c.in-Some.ensures.value))

pub returns-in-None : goal.returns-in-None
returns-in-None c = unmet (λ is. absurd (false≢true (c.in-None.ensures.some.1 is))) c.error.ensures
