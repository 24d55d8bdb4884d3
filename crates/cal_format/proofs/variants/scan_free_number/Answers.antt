use Rattle.std.proofs.Common.{ap}
use Rattle.std.specs.Prelude.{Some}
use Rattle.cal_format.proofs.VariantScans.{IsFilled, number-scanned, number-none, number-every}
use Rattle.cal_format.proofs.variants.scan_free_number.Goals as goal

pub returns-in_err-first-clause-every : goal.returns-in_err-first-clause-every
returns-in_err-first-clause-every c n front rest v out e =
    let filled : IsFilled c.args.may_fill _ c.skip_fill-fill.result c.args.scanner.now.rest.now c.skip_fill-fill.new.scanner.rest.now =
    record { value = c.skip_fill-fill.ensures.value; range = c.skip_fill-fill.ensures.range; unfilled = c.skip_fill-fill.ensures.unfilled; every = c.skip_fill-fill.ensures.every } in
    number-none c.args.may_fill c.args.width _ n _ _ _ front rest _ filled v e c.in_err-first.ensures.scans

pub returns-clause-value : goal.returns-clause-value
returns-clause-value c =
    let filled : IsFilled c.args.may_fill _ c.skip_fill-fill.result c.args.scanner.now.rest.now c.skip_fill-fill.new.scanner.rest.now =
    record { value = c.skip_fill-fill.ensures.value; range = c.skip_fill-fill.ensures.range; unfilled = c.skip_fill-fill.ensures.unfilled; every = c.skip_fill-fill.ensures.every } in
    number-scanned c.args.may_fill c.args.width _ c.in_ok-first.first _ _ _ _ _ c.requires.0 filled c.in_ok-first.ensures.value (rw c.from.ensures at c.scan_up_to.ensures.value)

pub returns-clause-every : goal.returns-clause-every
returns-clause-every c n front rest v out e =
    let filled : IsFilled c.args.may_fill _ c.skip_fill-fill.result c.args.scanner.now.rest.now c.skip_fill-fill.new.scanner.rest.now =
    record { value = c.skip_fill-fill.ensures.value; range = c.skip_fill-fill.ensures.range; unfilled = c.skip_fill-fill.ensures.unfilled; every = c.skip_fill-fill.ensures.every } in
    let found = number-every c.args.may_fill c.args.width _ c.in_ok-first.first _ n _ _ _ _ front rest c.requires.0 filled c.in_ok-first.ensures.value (rw c.from.ensures at c.scan_up_to.ensures.value) c.scan_up_to.ensures.end v out e in
    (ap (λ k. Some k) found.0, found.1)
