use Rattle.std.proofs.Common.{subst, arith}
use Rattle.cal_format.specs.Scanning.{HasFields}
use Rattle.cal_format.proofs.OnePass.{none-scanned, scanned}
use Rattle.cal_format.proofs.Spellings.{empty-text}
use Rattle.cal_format.proofs.one_pass.scan_whole.Goals as goal

pub loop-left-init : goal.loop-left-init
loop-left-init c new end has = has

pub loop-left-preserved : goal.loop-left-preserved
loop-left-preserved c new end has =
    c.loop-left.invariant new end
    (scanned c.loop-left.left.now c.loop-left.fields c.scan.new.self new c.loop-left.scanner.rest.now c.scan.new.scanner.rest.now end c.in-len1-up.len_at_least (c.scan.ensures.value c.if-not-scan.false) has)

pub returns : goal.returns
returns c h =
    let fields = c.loop-left.fields in
    let rest = c.loop-left.scanner.rest.now in
    subst (HasFields c.args.items.now c.args.fields.now fields c.args.text.now) (empty-text rest c.is_empty.result c.is_empty.ensures h)
    (c.loop-left.invariant fields rest (none-scanned fields rest c.loop-left.left.now (omega (arith, c.in_default.len_below))))
