use Rattle.std.proofs.Common.{◌*ℤ◌, ◌∙◌, ap, sym, FitsSigned, rules}
use Rattle.std.specs.Int.{w128}
use Rattle.std.proofs.lemmas.Int.{to_z-of_z}
use Rattle.cal_schedule.specs.Period.{days_of, months_of}
use Rattle.cal_schedule.proofs.Periods.{false_true}
use Rattle.cal_zoned.proofs.Shown.{by_clock, by_exact, is_in, none_in}
use Rattle.cal_zoned.proofs.unchecked.nth_later.Goals as goal

pub returns-then-is_exact : goal.returns-then-is_exact
returns-then-is_exact c = λ order.
    let n = c.ranges.n in
    let zone = c.args.zone.now in
    let p = c.args.period in
    let f : FitsSigned w128 c.times-nanoseconds.result = search rules in
    let s = simp to_z-of_z at c.times-nanoseconds.ensures.value in
    let still = (simp to_z-of_z at c.is_exact.ensures).0 c.if-is_exact.true in
    by_exact c.args.policy zone c.args.moment (c.args.n *ℤ months_of p) (c.args.n *ℤ days_of p) (c.args.n *ℤ p.exact) c.times-nanoseconds.result _ still
    (s ∙ ap (λ x. c.args.n *ℤ x) c.duration.ensures) (simp to_z-of_z at (c.later_by.ensures order))

pub returns-else-is_exact : goal.returns-else-is_exact
returns-else-is_exact c = λ order.
    let n = c.ranges.n in
    let zone = c.args.zone.now in
    let p = c.args.period in
    let f : FitsSigned w128 c.times-nanoseconds.result = search rules in
    let s = simp to_z-of_z at c.times-nanoseconds.ensures.value in
    let test = simp to_z-of_z at c.is_exact.ensures in
    by_clock c.args.policy zone c.args.moment (c.args.n *ℤ months_of p) (c.args.n *ℤ days_of p) (c.args.n *ℤ p.exact) c.times-nanoseconds.result _
    (λ still. false_true (sym c.if-is_exact.false ∙ test.1 still))
    (s ∙ ap (λ x. c.args.n *ℤ x) c.duration.ensures) ((simp to_z-of_z at c.date_later.ensures.moved) order)
    (λ none. none_in zone c.date_later.result ((simp to_z-of_z at c.date_later.ensures.none) none)) (is_in _ zone c.date_later.result (simp to_z-of_z at c.date_later.ensures.is))
