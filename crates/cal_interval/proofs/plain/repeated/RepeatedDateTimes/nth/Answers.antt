use Rattle.std.proofs.Common.{ℤ, subst, sym, rules, w32}
use Rattle.std.proofs.lemmas.Int.{to_z-of_z}
use Rattle.std.proofs.lemmas.Option.{IfSome_then}
use Rattle.cal_zoned.specs.Period.{IsNthLater}
use Rattle.cal_interval.specs.Repeats.{IsOccurrence}
use Rattle.cal_interval.proofs.plain.repeated.RepeatedDateTimes.nth.Goals as goal

pub returns-clause-every : goal.returns-clause-every
returns-clause-every c r date_time occurs later =
    let s = c.args.self in
    c.nth_period.ensures.every r date_time (subst (λ (x : ℤ). IsNthLater s.start s.period x r) (sym (to_z-of_z w32 c.args.n c.ranges.n)) later)

pub returns-clause-value : goal.returns-clause-value
returns-clause-value c =
    let f = c.ranges.n in
    let later = simp to_z-of_z at c.nth_period.ensures.value in
    let occurs : IsOccurrence c.args.self.count c.args.n = search rules in
    IfSome_then c.nth_period.result later (λ r h. (h.0, occurs, h.1))
