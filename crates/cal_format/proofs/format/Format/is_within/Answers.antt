use Rattle.std.proofs.Common.{◌&&◌, nat_le, sym, subst, ◌∙◌}
use Rattle.cal_format.specs.Shown.{AreShown}
use Rattle.cal_format.proofs.Marks.{all-within}
use Rattle.cal_format.proofs.format.Format.is_within.Goals as goal

pub returns : goal.returns
returns c =
    let shown = subst (λ l. AreShown l c.self.inside.shown) c.self.view_is c.self.invariant.1 in
    c.is_within.ensures ∙ (λ j. nat_le c.args.low (shown.low j) && nat_le (shown.end j) c.args.high) ∙ sym (all-within c.args.low c.args.high c.args.self.now c.requires.0 c.requires.1)
