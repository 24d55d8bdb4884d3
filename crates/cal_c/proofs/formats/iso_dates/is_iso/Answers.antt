use Rattle.std.proofs.Common.{◌≡◌, length, List, arith}
use Rattle.cal_format.specs.declared.item.Component.TheVariants.{Year, Month, Day}
use Rattle.cal_format.specs.declared.item.Item.{Item}
use Rattle.cal_format.specs.declared.item.Item.TheVariants.{Literal, Number}
use Rattle.cal_format.specs.declared.item.Padding.TheVariants.{Zero}
use Rattle.cal_format.specs.Laws.{iso_items}
use Rattle.cal_c.proofs.IsoDates.{five-only}
use Rattle.cal_c.proofs.OnePass.{format-of}
use Rattle.cal_c.proofs.formats.iso_dates.is_iso.Goals as goal

pub returns : goal.returns
returns c h =
    let parts = c.in-Some.parts.now in
    let long : length parts ≡ 5 = omega arith in
    let iso = λ (l : List Item). l ≡ iso_items in
    format-of c.args.format.now parts iso iso c.in-Some.ensures.few c.in-Some.ensures.value c.in-Some.ensures.length
    (five-only (Number Year Zero) (Literal 45) (Number Month Zero) (Literal 45) (Number Day Zero) parts long
    (c.is_number.ensures c.if-not-is_number.false) (c.is_byte.ensures c.if-not-is_byte.false)
    (c.is_number-else-not-is_number.ensures c.if-not-is_number-2.false) (c.is_byte-else-not-is_byte.ensures c.if-not-is_byte-2.false)
    (c.is_number-2.ensures h)) (λ items e. e)
