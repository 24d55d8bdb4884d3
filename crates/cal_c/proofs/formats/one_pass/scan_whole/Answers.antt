use Rattle.std.proofs.Common.{◌≡◌, ◌-◌, List, length, map, take, drop, arith, subst}
use Rattle.cal_format.specs.declared.item.Item.{Item}
use Rattle.cal_format.specs.Reading.{ends_before, are_apart}
use Rattle.cal_format.proofs.OnePass.{scanned-more}
use Rattle.cal_format.proofs.Spellings.{empty-text}
use Rattle.cal_c.specs.Formats.{item_parts}
use Rattle.cal_c.specs.OnePass.{AreItemsOf, ScansItem, ScansItems}
use Rattle.cal_c.proofs.OnePass.{all-of, both-true, none-scanned, with-parts}
use Rattle.cal_c.proofs.formats.one_pass.scan_whole.Goals as goal

pub loop-left-init : goal.loop-left-init
loop-left-init c new end are = are

pub loop-left-preserved : goal.loop-left-preserved
loop-left-preserved c new end are =
    let ps = c.loop-left.left.now in
    let others = take (length ps - 1) (drop 1 ps) in
    let old = c.loop-left.fields in
    let mid = c.scan_part.new.fields in
    let text = c.loop-left.scanner.rest.now in
    let rest = c.scan_part.new.scanner.rest.now in
    c.loop-left.invariant new end
    (all-of (ScansItem old mid text rest others) (λ (l : List Item). ScansItems mid new rest end l × (others ≡ map item_parts l)) (ScansItems old new text end) ps
    (λ i items first both. record {
      has = scanned-more i items old mid new text rest end first.has both.0.has;
      apart = both-true (ends_before i items) (are_apart items) (first.apart items both.1) both.0.apart;
    }) c.in-len1-up.len_at_least (c.scan_part.ensures c.if-not-scan_part.false) (with-parts (ScansItems mid new rest end) others are))

pub returns : goal.returns
returns c h =
    let fields = c.loop-left.fields in
    let rest = c.loop-left.scanner.rest.now in
    subst (λ l. AreItemsOf c.args.parts.now (ScansItems c.args.fields.now fields c.args.text.now l)) (empty-text rest c.is_empty.result c.is_empty.ensures h)
    (c.loop-left.invariant fields rest (none-scanned fields rest c.loop-left.left.now (omega (arith, c.in_default.len_below))))
