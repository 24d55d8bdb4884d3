use Rattle.std.proofs.Common.{◌∙◌, ap, sym, subst, ℕ, ℤ, rules, w64, FitsSigned, ◌*ℤ◌}
use Rattle.std.specs.Int.{w128}
use Rattle.std.specs.Prelude.{IfSome}
use Rattle.std.proofs.lemmas.Int.{to_z-of_z}
use Rattle.cal_time.specs.Date.{IsDate}
use Rattle.cal_schedule.specs.Period.{AgreeInSign, IsDaysLater, days_of, months_of}
use Rattle.cal_schedule.proofs.Periods.{multiples_agree}
use Rattle.cal_schedule.proofs.period_moves.nth_date.Goals as goal

pub moved-requires : goal.moved-requires
moved-requires c =
    let n = c.ranges.n in
    let a : FitsSigned w64 c.whole_months.result = search rules in
    let b : FitsSigned w64 c.whole_days.result = search rules in
    let m = simp to_z-of_z at c.product-months.ensures.value ∙ ap (λ (x : ℤ). c.args.n *ℤ x) c.whole_months.ensures.value in
    let d = simp to_z-of_z at c.product-days.ensures.value ∙ ap (λ (x : ℤ). c.args.n *ℤ x) c.whole_days.ensures in
    let i : FitsSigned w128 c.product-months.result = search rules in
    let j : FitsSigned w128 c.product-days.result = search rules in
    simp to_z-of_z (subst (λ (x : ℤ). AgreeInSign x c.product-days.result) (sym m) (subst (AgreeInSign (c.args.n *ℤ months_of c.args.period)) (sym d) (multiples_agree c.args.n c.args.period c.whole_months.ensures.one_sign)))

pub returns-clause-every : goal.returns-clause-every
returns-clause-every c r h later =
    let n = c.ranges.n in
    let a : FitsSigned w64 c.whole_months.result = search rules in
    let b : FitsSigned w64 c.whole_days.result = search rules in
    let m = simp to_z-of_z at c.product-months.ensures.value ∙ ap (λ (x : ℤ). c.args.n *ℤ x) c.whole_months.ensures.value in
    let d = simp to_z-of_z at c.product-days.ensures.value ∙ ap (λ (x : ℤ). c.args.n *ℤ x) c.whole_days.ensures in
    let i : FitsSigned w128 c.product-months.result = search rules in
    let j : FitsSigned w128 c.product-days.result = search rules in
    (simp to_z-of_z at (c.moved.ensures.every r h))
    (subst (λ (x : ℤ). IsDaysLater c.args.start x c.product-days.result r) (sym m) (subst (λ (x : ℤ). IsDaysLater c.args.start (c.args.n *ℤ months_of c.args.period) x r) (sym d) later))

pub returns-clause-value : goal.returns-clause-value
returns-clause-value c =
    let n = c.ranges.n in
    let a : FitsSigned w64 c.whole_months.result = search rules in
    let b : FitsSigned w64 c.whole_days.result = search rules in
    let m = simp to_z-of_z at c.product-months.ensures.value ∙ ap (λ (x : ℤ). c.args.n *ℤ x) c.whole_months.ensures.value in
    let d = simp to_z-of_z at c.product-days.ensures.value ∙ ap (λ (x : ℤ). c.args.n *ℤ x) c.whole_days.ensures in
    let i : FitsSigned w128 c.product-months.result = search rules in
    let j : FitsSigned w128 c.product-days.result = search rules in
    subst (λ (x : ℤ). IfSome c.moved.result (λ (r : ℕ). IsDate r × IsDaysLater c.args.start x (c.args.n *ℤ days_of c.args.period) r)) m
    (subst (λ (x : ℤ). IfSome c.moved.result (λ (r : ℕ). IsDate r × IsDaysLater c.args.start c.product-months.result x r)) d (simp to_z-of_z at c.moved.ensures.value))
