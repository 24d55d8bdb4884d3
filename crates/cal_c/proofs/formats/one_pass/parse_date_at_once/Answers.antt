use Rattle.std.proofs.Common.{List, [], refl, sym, ◌∙◌}
use Rattle.cal_format.specs.declared.item.Item.{Item}
use Rattle.cal_format.specs.Laws.{iso_items}
use Rattle.cal_format.specs.Scanning.{IsOneDate}
use Rattle.cal_format.proofs.FieldDates.{one-date}
use Rattle.cal_format.proofs.OnePass.{whole}
use Rattle.cal_c.specs.OnePass.{ScansItems, week_items}
use Rattle.cal_c.proofs.IsoDates.{only-parsed}
use Rattle.cal_c.proofs.OnePass.{format-of}
use Rattle.cal_c.proofs.formats.one_pass.parse_date_at_once.Goals as goal

pub returns : goal.returns
returns c =
    let text = c.args.text.now in
    let empty = c.new-fields in
    let fields = c.scan_whole.new.fields in
    let parts = c.in_ok-parts.ensures in
    format-of c.args.format.now c.in_ok-parts.parts.now (ScansItems empty.result fields text []) (λ (l : List Item). IsOneDate l c.in_ok-date.date text) parts.few parts.value parts.length (c.scan_whole.ensures c.if-not-scan_whole.false)
    (λ items scan.
    let are = scan.has.shown [] empty.ensures.shown in
    one-date items fields text c.in_ok-date.date (whole items empty.result fields text [] scan.has refl empty.ensures.zero) are.marks scan.apart (sym (c.are_within.ensures items are) ∙ c.if-not-are_within.false) c.in_ok-date.ensures.value)

pub returns-then-is_iso : goal.returns-then-is_iso
returns-then-is_iso c = only-parsed iso_items c.parse_iso.result c.args.format.now (λ n items. IsOneDate items n c.args.text.now) (c.is_iso.ensures c.if-is_iso.true) c.parse_iso.ensures

pub returns-then-is_iso_week : goal.returns-then-is_iso_week
returns-then-is_iso_week c =
    only-parsed week_items c.parse_iso_week.result c.args.format.now (λ n items. IsOneDate items n c.args.text.now) (c.is_iso_week.ensures c.if-is_iso_week.true) c.parse_iso_week.ensures
