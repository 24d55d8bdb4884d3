use Rattle.std.proofs.Common.{◌≡◌, length, List, arith}
use Rattle.cal_format.specs.declared.item.Component.TheVariants.{IsoYear, IsoWeek, Weekday}
use Rattle.cal_format.specs.declared.item.Item.{Item}
use Rattle.cal_format.specs.declared.item.Item.TheVariants.{Literal, Number}
use Rattle.cal_format.specs.declared.item.Padding.TheVariants.{Zero}
use Rattle.cal_c.specs.OnePass.{week_items}
use Rattle.cal_c.proofs.IsoDates.{six-only}
use Rattle.cal_c.proofs.OnePass.{format-of}
use Rattle.cal_c.proofs.formats.iso_dates.is_iso_week.Goals as goal

pub returns : goal.returns
returns c h =
    let parts = c.in-Some.parts.now in
    let long : length parts ≡ 6 = omega arith in
    let week = λ (l : List Item). l ≡ week_items in
    format-of c.args.format.now parts week week c.in-Some.ensures.few c.in-Some.ensures.value c.in-Some.ensures.length
    (six-only (Number IsoYear Zero) (Literal 45) (Literal 87) (Number IsoWeek Zero) (Literal 45) (Number Weekday Zero) parts long
    (c.is_number.ensures c.if-not-is_number.false) (c.is_byte.ensures c.if-not-is_byte.false) (c.is_byte-2.ensures c.if-not-is_byte-3.false)
    (c.is_number-2.ensures c.if-not-is_number-2.false) (c.is_byte-else-not-is_byte.ensures c.if-not-is_byte-2.false) (c.is_number-3.ensures h)) (λ items e. e)
