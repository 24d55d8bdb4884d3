use Rattle.std.proofs.Common.{◌+◌, drop, arith}
use Rattle.cal_format.proofs.Apart.{others_of}
use Rattle.cal_format.proofs.Forms.{mapped}
use Rattle.cal_format.proofs.FormNumbers.{noted}
use Rattle.cal_named_format.specs.Rejection.{HasNumbersIn}
use Rattle.cal_named_format.proofs.Named.{has-first-in}
use Rattle.cal_named_format.proofs.parsing.+scan_items.Goals as goal

pub returns-in_ok-numbers-in-len1-up-clause-value : goal.returns-in_ok-numbers-in-len1-up-clause-value
returns-in_ok-numbers-in-len1-up-clause-value t c =
    let names = c.args.names.now in
    let first = c.in_ok-numbers-in-len1-up.ensures in
    let next = noted c.args.at _ c.args.numbers.now c.scan_items.new.numbers (omega arith) c.scan_items.ensures.kept in
    mapped (λ _. HasNumbersIn names (others_of c.args.items.now) (drop (c.args.at + 1) c.scan_items.new.numbers) _) (λ _. HasNumbersIn names c.args.items.now (drop c.args.at c.scan_items.new.numbers) c.args.scanner.now.rest.now) _
    (λ u h. has-first-in names c.args.items.now _ _ _ _ _ c.in-len1-up.len_at_least first.range first.value h next.1) c.scan_items.ensures.value

pub returns-in_ok-numbers-in-len1-up-clause-kept : goal.returns-in_ok-numbers-in-len1-up-clause-kept
returns-in_ok-numbers-in-len1-up-clause-kept t c = (noted c.args.at _ c.args.numbers.now c.scan_items.new.numbers (omega arith) c.scan_items.ensures.kept).0
