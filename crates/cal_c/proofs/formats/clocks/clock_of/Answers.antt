use Rattle.std.proofs.Common.{◌≡◌, length, List, arith}
use Rattle.std.specs.Prelude.{Bool, true, false}
use Rattle.cal_format.specs.declared.item.Component.TheVariants.{Hour, Minute, Second}
use Rattle.cal_format.specs.declared.item.Item.{Item}
use Rattle.cal_format.specs.declared.item.Item.TheVariants.{Literal, Number}
use Rattle.cal_format.specs.declared.item.Padding.TheVariants.{Zero}
use Rattle.cal_c.specs.OnePass.{clock_items}
use Rattle.cal_c.proofs.IsoDates.{three-only, five-only}
use Rattle.cal_c.proofs.OnePass.{format-of}
use Rattle.cal_c.proofs.formats.clocks.clock_of.Goals as goal

abbrev IsClock : Bool → List Item → Type 0
IsClock b l = l ≡ clock_items b

pub returns-then-parts-eq-ITEMS_TO_MINUTE : goal.returns-then-parts-eq-ITEMS_TO_MINUTE
returns-then-parts-eq-ITEMS_TO_MINUTE c =
    let parts = c.in_ok-parts.parts.now in
    let are = c.in_ok-parts.ensures in
    let long : length parts ≡ 3 = omega arith in
    format-of c.args.format.now parts (IsClock false) (IsClock false) are.few are.value are.length
    (three-only (Number Hour Zero) (Literal 58) (Number Minute Zero) parts long
    (c.is_number.ensures c.if-not-is_number.false) (c.is_byte.ensures c.if-not-is_byte.false) (c.is_number-2.ensures c.if-not-is_number-2.false)) (λ items e. e)

pub returns : goal.returns
returns c =
    let parts = c.in_ok-parts.parts.now in
    let are = c.in_ok-parts.ensures in
    let long : length parts ≡ 5 = omega arith in
    format-of c.args.format.now parts (IsClock true) (IsClock true) are.few are.value are.length
    (five-only (Number Hour Zero) (Literal 58) (Number Minute Zero) (Literal 58) (Number Second Zero) parts long
    (c.is_number.ensures c.if-not-is_number.false) (c.is_byte.ensures c.if-not-is_byte.false) (c.is_number-2.ensures c.if-not-is_number-2.false)
    (c.is_byte-2.ensures c.if-not-is_byte-2.false) (c.is_number-else-not-is_byte-2.ensures c.if-not-is_number-3.false)) (λ items e. e)
