use Rattle.std.proofs.Common.{◌∙◌, ap, sym, ℤ, ◌*ℤ◌, w64, FitsSigned, rules}
use Rattle.std.specs.Int.{w128}
use Rattle.std.proofs.lemmas.Int.{to_z-of_z}
use Rattle.cal_zoned.proofs.unchecked.has_no_days.Goals as goal

pub returns : goal.returns
returns c =
    let n = c.ranges.n in
    let a : FitsSigned w64 c.whole_days.result = search rules in
    let m = simp to_z-of_z at c.product.ensures ∙ ap (λ (x : ℤ). c.args.n *ℤ x) c.whole_days.ensures in
    let i : FitsSigned w128 c.product.result = search rules in
    let test = simp to_z-of_z at c.is_zero.ensures in
    (λ t. sym m ∙ test.0 t, λ e. test.1 (m ∙ e))
