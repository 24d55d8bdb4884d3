use Rattle.std.proofs.Common.{length, ap, arith}
use Rattle.std.proofs.lemmas.List.{length-map}
use Rattle.cal_format.proofs.Lengths.{text-short}
use Rattle.cal_c.specs.OnePass.{PrintsItems}
use Rattle.cal_c.proofs.OnePass.{format-of}
use Rattle.cal_c.proofs.formats.one_pass.print_at_once.Goals as goal

pub returns-clause-value : goal.returns-clause-value
returns-clause-value c =
    let parts = c.in_ok-parts.ensures in
    let prints = PrintsItems c.args.low c.args.high c.args.moment.now c.args.buffer.now c.print_parts-end.new.buffer 0 c.print_parts-end.result in
    format-of c.args.format.now c.in_ok-parts.parts.now prints prints parts.few parts.value parts.length (c.print_parts-end.ensures (omega arith)) (λ items h. h)

pub returns-clause-max_length : goal.returns-clause-max_length
returns-clause-max_length c =
    let found = c.print_parts-end.ensures (omega arith) in
    let own = found.every found.items found.parts_are in
    omega (arith, own.end_is, text-short found.items c.args.moment.now c.requires, simp length-map at (ap length found.parts_are), c.in_ok-parts.ensures.length)
