use Rattle.std.proofs.Common.{sym, ◌∙◌}
use Rattle.cal_format.specs.declared.item.Item.TheVariants.{Number}
use Rattle.cal_format.specs.declared.item.Padding.TheVariants.{Zero}
use Rattle.cal_c.proofs.IsoDates.{number-one, same-part}
use Rattle.cal_c.proofs.formats.iso_dates.is_number.Goals as goal

pub returns : goal.returns
returns c h =
    let is = same-part c.args.part c.item_parts.result (sym c.eq.ensures ∙ h) ∙ c.item_parts.ensures in
    record { item = Number c.args.component Zero; part_is = is; every = λ i e. number-one c.args.component Zero i (sym is ∙ e) }
