use Rattle.std.proofs.Common.{subst, rules, w32, FitsSigned}
use Rattle.std.specs.Prelude.{SomeIff}
use Rattle.std.proofs.lemmas.Int.{to_z-of_z}
use Rattle.cal_schedule.specs.Period.{parts, IsOneSign, Parts}
use Rattle.cal_schedule.proofs.period.Period.with_duration.Goals as goal

pub returns : goal.returns
returns c =
    let s = c.self.inside in
    let years : FitsSigned w32 s.years = search rules in
    let months : FitsSigned w32 s.months = search rules in
    let weeks : FitsSigned w32 s.weeks = search rules in
    let days : FitsSigned w32 s.days = search rules in
    subst (λ (p : Parts). SomeIff c.new.result (IsOneSign (parts p.years p.months p.weeks p.days c.args.duration)) (parts p.years p.months p.weeks p.days c.args.duration)) c.self.view_is
    (simp to_z-of_z at c.new.ensures)
