use Rattle.std.proofs.Common.{All, FitsSigned, arith, get_or, pos, refl, rules, subst, take_all, w32}
use Rattle.std.proofs.lemmas.Int.{to_z-of_z}
use Rattle.std.proofs.lemmas.List.Elements.{All-more}
use Rattle.cal_c.specs.Values.{IsJulianDay}
use Rattle.cal_c.proofs.schedule.recurrences.rule_dates.are_dates.Goals as goal

pub loop-index-preserved : goal.loop-index-preserved
loop-index-preserved c =
    let days = c.args.julian_days.now in
    let index = c.loop-index.index in
    let f : FitsSigned w32 (get_or days index (pos 0)) = search rules in
    let at = simp to_z-of_z at c.in-Some.ensures in
    record { dates = All-more IsJulianDay days index (pos 0) (omega arith) c.loop-index.invariant.dates at.0 }

pub returns : goal.returns
returns c = (λ e. subst (All IsJulianDay) (take_all c.loop-index.index c.args.julian_days.now (omega arith)) c.loop-index.invariant.dates, λ all. refl)
