use Rattle.std.proofs.Common.{refl}
use Rattle.cal_format.specs.declared.item.Item.TheVariants.{Name, Number}
use Rattle.cal_format.specs.declared.item.Padding.TheVariants as padding
use Rattle.cal_c.specs.Formats.{parts}
use Rattle.cal_c.specs.OnePass.{ScansItem}
use Rattle.cal_c.proofs.IsoDates.{name-one, number-one}
use Rattle.cal_c.proofs.OnePass.{only-item}
use Rattle.cal_c.proofs.formats.one_pass.scan_other_part.Goals as goal

pub returns-in-Some : goal.returns-in-Some
returns-in-Some c h =
    let component = c.in-Some.component in
    only-item (ScansItem c.args.fields.now c.scan_plain.new.fields c.args.scanner.now.rest.now c.scan_plain.new.scanner.rest.now c.args.others.now) c.args.part (Number component padding.None)
    (λ j. parts (c.in-3.is j) (c.in-Some.ensures.value j)) (number-one component padding.None) (c.scan_plain.ensures h)

pub returns-in-Some-name_with : goal.returns-in-Some-name_with
returns-in-Some-name_with c h =
    let name = c.in-Some-name_with.name in
    only-item (ScansItem c.args.fields.now c.scan.new.self c.args.scanner.now.rest.now c.scan.new.scanner.rest.now c.args.others.now) c.args.part (Name name)
    (λ j. parts (c.in-4.is j) (c.in-Some-name_with.ensures.value j)) (name-one name) (record { has = c.scan.ensures.value h; apart = λ items _. refl })
