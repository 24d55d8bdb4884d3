use Rattle.std.proofs.Common.{◌∙◌, [], append-nil, subst}
use Rattle.cal_format.specs.Printing.{Writes}
use Rattle.cal_format.specs.Text.{item_text}
use Rattle.cal_named_format.proofs.Named.{other-text}
use Rattle.cal_named_format.proofs.printing.print_item.Goals as goal

pub returns-in_default : goal.returns-in_default
returns-in_default c =
    subst (λ text. Writes text c.args.at c.args.buffer.now c.print_items.new.buffer c.print_items.result)
    (append-nil (item_text [] c.args.moment.now c.args.item) ∙ other-text c.args.names.now c.args.moment.now c.args.item c.in_default.not-Name) c.print_items.ensures
