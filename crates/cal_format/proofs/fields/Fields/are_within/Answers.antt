use Rattle.std.proofs.Common.{◌&&◌, nat_le, sym, ◌∙◌}
use Rattle.cal_format.proofs.Marks.{all-within}
use Rattle.cal_format.proofs.fields.Fields.are_within.Goals as goal

pub returns : goal.returns
returns c items are =
    c.is_within.ensures ∙ (λ j. nat_le c.args.low (are.low j) && nat_le (are.end j) c.args.high) ∙ sym (all-within c.args.low c.args.high items c.requires.0 c.requires.1)
