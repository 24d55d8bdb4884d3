use Rattle.std.proofs.Common.{◌≡◌, refl, ap}
use Rattle.cal_format.specs.declared.item.Item.TheVariants.{Literal, Number}
use Rattle.cal_format.specs.declared.item.Padding.TheVariants.{Zero}
use Rattle.cal_format.specs.Reading.{index}
use Rattle.cal_c.specs.Formats.{parts}
use Rattle.cal_c.specs.OnePass.{ScansItem}
use Rattle.cal_c.proofs.IsoDates.{byte-one, number-one}
use Rattle.cal_c.proofs.OnePass.{only-item}
use Rattle.cal_c.proofs.formats.one_pass.scan_part.Goals as goal

pub returns-in-0 : goal.returns-in-0
returns-in-0 c h =
    let byte = c.args.part.value in
    let same : c.args.part ≡ parts 0 byte = ap (λ k. parts k byte) c.in-0.is in
    only-item (ScansItem c.args.fields.now c.scan.new.self c.args.scanner.now.rest.now c.scan.new.scanner.rest.now c.args.others.now) c.args.part (Literal byte) same (byte-one byte)
    (record { has = c.scan.ensures.value h; apart = λ items _. refl })

pub returns-in-Some : goal.returns-in-Some
returns-in-Some c h =
    let component = c.in-Some.component in
    let same : c.args.part ≡ parts 1 (index component) = λ j. parts (c.in-1.is j) (c.in-Some.ensures.value j) in
    only-item (ScansItem c.args.fields.now c.scan-in-Some.new.self c.args.scanner.now.rest.now c.scan-in-Some.new.scanner.rest.now c.args.others.now) c.args.part (Number component Zero) same (number-one component Zero)
    (record { has = c.scan-in-Some.ensures.value h; apart = λ items _. refl })
