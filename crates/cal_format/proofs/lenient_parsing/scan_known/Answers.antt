use Rattle.std.proofs.Common.{◌∙◌, ap, drop, arith}
use Rattle.cal_format.specs.declared.item.Component.TheVariants.{YearOfCentury}
use Rattle.cal_format.specs.Values.{number_in}
use Rattle.cal_format.proofs.Known.{pair-low, tail-whole, variants-fit}
use Rattle.cal_format.proofs.OnePass.{some-holds}
use Rattle.cal_format.proofs.lenient_parsing.scan_known.Goals as goal

pub century_of-requires-clause-pair : goal.century_of-requires-clause-pair
century_of-requires-clause-pair c =
    let items = c.items-items.result.now in
    let numbers = c.scan_variants-2.new.numbers in
    let has = some-holds c.scan_variants-2.result _ c.if-is_none.ensures c.scan_variants-2.ensures.value in
    omega (arith, c.number_in-pair.ensures ∙ ap (λ l. number_in items l YearOfCentury) (tail-whole numbers), pair-low items (drop 1 numbers) (variants-fit _ items (drop 1 numbers) _ has))
