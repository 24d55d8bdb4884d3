use Rattle.cal_format.specs.declared.item.Item.TheVariants.{Name, Number}
use Rattle.cal_format.specs.declared.item.Padding.TheVariants as padding
use Rattle.cal_c.specs.Formats.{parts}
use Rattle.cal_c.proofs.IsoDates.{name-one, number-one}
use Rattle.cal_c.proofs.OnePass.{prints-only}
use Rattle.cal_c.proofs.formats.one_pass.print_other_part.Goals as goal

pub returns-in_ok-component-in-3-clause-value : goal.returns-in_ok-component-in-3-clause-value
returns-in_ok-component-in-3-clause-value c =
    let component = c.in_ok-component-in-3.component in
    prints-only c.args.low c.args.high c.args.moment.now c.args.buffer.now c.print_within.new.buffer c.args.at c.args.part (Number component padding.None) c.print_within.result
    (λ j. parts (c.in-3.is j) (c.in_ok-component-in-3.ensures.value j)) (number-one component padding.None) c.print_within.ensures.value

pub returns-in_ok-name_with-in-4-clause-value : goal.returns-in_ok-name_with-in-4-clause-value
returns-in_ok-name_with-in-4-clause-value c =
    let name = c.in_ok-name_with-in-4.field-0 in
    prints-only c.args.low c.args.high c.args.moment.now c.args.buffer.now c.print_within-in-4.new.buffer c.args.at c.args.part (Name name) c.print_within-in-4.result
    (λ j. parts (c.in-4.is j) (c.in_ok-name_with-in-4.ensures.value j)) (name-one name) c.print_within-in-4.ensures.value
