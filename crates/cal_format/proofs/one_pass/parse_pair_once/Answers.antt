use Rattle.std.proofs.Common.{[], refl, sym, subst}
use Rattle.cal_format.specs.Scanning.{HasFields, IsOnePair}
use Rattle.cal_format.proofs.FieldTimes.{one-pair}
use Rattle.cal_format.proofs.OnePass.{whole}
use Rattle.cal_format.proofs.one_pass.parse_pair_once.Goals as goal

pub returns : goal.returns
returns c =
    let items = c.args.items.now in
    let text = c.args.text.now in
    let fields = c.scan_whole.new.fields in
    let has = subst (λ l. HasFields l c.new-fields.result fields text []) c.items.ensures.items (c.scan_whole.ensures c.if-not-scan_whole.false) in
    let read = whole items c.new-fields.result fields text [] has refl c.new-fields.ensures.zero in
    subst (λ z. IsOnePair items z text) (sym c.new.ensures.value) (one-pair items fields text c.in_ok-date.date c.in_ok-time.time read (has.shown [] c.new-fields.ensures.shown).marks c.requires.0 c.requires.1 c.in_ok-date.ensures.value c.in_ok-time.ensures.value)
