use Rattle.std.proofs.Common.{ap}
use Rattle.cal_format.specs.declared.item.Item.TheVariants.{Literal, Number}
use Rattle.cal_format.specs.declared.item.Padding.TheVariants.{Zero}
use Rattle.cal_c.specs.Formats.{parts}
use Rattle.cal_c.proofs.IsoDates.{byte-one, number-one}
use Rattle.cal_c.proofs.OnePass.{prints-only}
use Rattle.cal_c.proofs.formats.one_pass.print_part.Goals as goal

pub returns-in-0-clause-value : goal.returns-in-0-clause-value
returns-in-0-clause-value c =
    let byte = c.args.part.value in
    prints-only c.args.low c.args.high c.args.moment.now c.args.buffer.now c.print_within.new.buffer c.args.at c.args.part (Literal byte) c.print_within.result (ap (λ k. parts k byte) c.in-0.is) (byte-one byte)
    c.print_within.ensures.value

pub returns-in_ok-component-in-1-clause-value : goal.returns-in_ok-component-in-1-clause-value
returns-in_ok-component-in-1-clause-value c =
    let component = c.in_ok-component-in-1.component in
    prints-only c.args.low c.args.high c.args.moment.now c.args.buffer.now c.print_within-in-1.new.buffer c.args.at c.args.part (Number component Zero) c.print_within-in-1.result
    (λ j. parts (c.in-1.is j) (c.in_ok-component-in-1.ensures.value j)) (number-one component Zero) c.print_within-in-1.ensures.value
