use Rattle.std.proofs.Common.{List, [], refl, sym, ◌∙◌}
use Rattle.cal_format.specs.declared.item.Item.{Item}
use Rattle.cal_format.specs.Scanning.{IsOneTime}
use Rattle.cal_format.proofs.FieldTimes.{one-time}
use Rattle.cal_format.proofs.OnePass.{whole}
use Rattle.cal_c.specs.OnePass.{ScansItems, clock_items}
use Rattle.cal_c.proofs.IsoDates.{only-parsed}
use Rattle.cal_c.proofs.OnePass.{format-of}
use Rattle.cal_c.proofs.formats.one_pass.parse_time_at_once.Goals as goal

pub returns : goal.returns
returns c =
    let text = c.args.text.now in
    let empty = c.new-fields in
    let fields = c.scan_whole.new.fields in
    let parts = c.in_ok-parts.ensures in
    format-of c.args.format.now c.in_ok-parts.parts.now (ScansItems empty.result fields text []) (λ (l : List Item). IsOneTime l c.in_ok-time.time text) parts.few parts.value parts.length (c.scan_whole.ensures c.if-not-scan_whole.false)
    (λ items scan.
    let are = scan.has.shown [] empty.ensures.shown in
    one-time items fields text c.in_ok-time.time (whole items empty.result fields text [] scan.has refl empty.ensures.zero) are.marks scan.apart (sym (c.are_within.ensures items are) ∙ c.if-not-are_within.false) c.in_ok-time.ensures.value)

pub returns-in-Some : goal.returns-in-Some
returns-in-Some c =
    only-parsed (clock_items c.in-Some.shows_second) c.parse_clock.result c.args.format.now (λ t items. IsOneTime items t c.args.text.now) c.in-Some.ensures c.parse_clock.ensures
