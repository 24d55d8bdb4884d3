use Rattle.std.proofs.Common.{sym, subst, ◌∙◌}
use Rattle.cal_format.specs.Shown.{AreShown}
use Rattle.cal_format.proofs.Marks.{fixed-apart}
use Rattle.cal_format.proofs.format.Format.is_apart.Goals as goal

pub returns-then-is_fixed : goal.returns-then-is_fixed
returns-then-is_fixed c =
    let shown = subst (λ l. AreShown l c.self.inside.shown) c.self.view_is c.self.invariant.1 in
    c.if-is_fixed.true ∙ sym (fixed-apart c.args.self.now (sym shown.fixed ∙ sym c.is_fixed.ensures ∙ c.if-is_fixed.true))
