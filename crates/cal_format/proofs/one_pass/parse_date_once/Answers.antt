use Rattle.std.proofs.Common.{[], refl, subst}
use Rattle.cal_format.specs.Scanning.{HasFields}
use Rattle.cal_format.proofs.FieldDates.{one-date}
use Rattle.cal_format.proofs.OnePass.{whole}
use Rattle.cal_format.proofs.one_pass.parse_date_once.Goals as goal

pub returns : goal.returns
returns c =
    let items = c.args.items.now in
    let text = c.args.text.now in
    let fields = c.scan_whole.new.fields in
    let has = subst (λ l. HasFields l c.new-fields.result fields text []) c.items.ensures.items (c.scan_whole.ensures c.if-not-scan_whole.false) in
    let read = whole items c.new-fields.result fields text [] has refl c.new-fields.ensures.zero in
    one-date items fields text c.in_ok-date.date read (has.shown [] c.new-fields.ensures.shown).marks c.requires.0 c.requires.1 c.in_ok-date.ensures.value
