use Rattle.std.proofs.Common.{sym, ◌∙◌}
use Rattle.cal_format.specs.declared.item.Item.TheVariants.{Literal}
use Rattle.cal_c.proofs.IsoDates.{byte-one, same-part}
use Rattle.cal_c.proofs.formats.iso_dates.is_byte.Goals as goal

pub returns : goal.returns
returns c h =
    let is = same-part c.args.part c.item_parts.result (sym c.eq.ensures ∙ h) ∙ c.item_parts.ensures in
    record { item = Literal c.args.byte; part_is = is; every = λ i e. byte-one c.args.byte i (sym is ∙ e) }
