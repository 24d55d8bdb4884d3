use Rattle.std.proofs.Common.{◌≡◌, ◌<◌, All, sym, ap, ◌∙◌, arith, subst, get_or, length, pos, rules, FitsSigned, w32}
use Rattle.std.proofs.lemmas.Int.{to_z-of_z}
use Rattle.std.proofs.lemmas.List.{get_or-map}
use Rattle.cal_c.specs.Values.{IsJulianDay, dates_in, day_of}
use Rattle.cal_c.proofs.schedule.workdays.ranks.RankedWorkdays.holiday.Goals as goal

pub returns : goal.returns
returns c = λ checked.
    let hs = c.self.inside.holidays.now in
    let f : FitsSigned w32 (get_or hs c.args.index (pos 0)) = search rules in
    let its = simp to_z-of_z at c.wrapped_number.ensures in
    let same : hs ≡ c.args.self.now.holidays = ap (λ r. r.holidays) c.self.view_is in
    let low : c.args.index < length hs = omega (arith, ap length same, c.requires) in
    let dates : All IsJulianDay hs = subst (All IsJulianDay) (sym same) checked.holidays.dates in
    its (dates c.args.index (pos 0) low) ∙ sym (get_or-map day_of hs c.args.index (pos 0) 0 low) ∙ ap (λ h. get_or (dates_in h) c.args.index 0) same
