use Rattle.std.proofs.Common.{arith}
use Rattle.cal_c.specs.OnePass.{PrintsItem, PrintsItems}
use Rattle.cal_c.proofs.OnePass.{all-of, prints-both}
use Rattle.cal_c.proofs.formats.one_pass.+print_parts.Goals as goal

pub returns-in-Some : goal.returns-in-Some
returns-in-Some t c h =
    let low = c.args.low in
    let high = c.args.high in
    let v = c.args.moment.now in
    let old = c.args.buffer.now in
    let mid = c.print_part.new.buffer in
    let new = c.print_parts.new.buffer in
    all-of (PrintsItem low high v old mid c.args.at c.in-Some.next) (PrintsItems low high v mid new c.in-Some.next c.print_parts.result) (PrintsItems low high v old new c.args.at c.print_parts.result) c.args.parts.now
    (prints-both low high v old mid new c.args.at c.in-Some.next c.print_parts.result) c.in-len1-up.len_at_least c.in-Some.ensures.value (c.print_parts.ensures (omega (arith, h)))
