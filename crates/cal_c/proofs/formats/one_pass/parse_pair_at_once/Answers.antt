use Rattle.std.proofs.Common.{List, [], refl, sym, subst, ◌∙◌}
use Rattle.cal_datetime.specs.DateTime.{date_time}
use Rattle.cal_format.specs.declared.item.Item.{Item}
use Rattle.cal_format.specs.Scanning.{IsOnePair}
use Rattle.cal_format.proofs.FieldTimes.{one-pair}
use Rattle.cal_format.proofs.OnePass.{whole}
use Rattle.cal_c.specs.OnePass.{IsFormatOf, ScansItems}
use Rattle.cal_c.proofs.OnePass.{format-of}
use Rattle.cal_c.proofs.formats.one_pass.parse_pair_at_once.Goals as goal

pub returns : goal.returns
returns c =
    let text = c.args.text.now in
    let empty = c.new-fields in
    let fields = c.scan_whole.new.fields in
    let parts = c.in_ok-parts.ensures in
    subst (λ z. IsFormatOf c.args.format.now (λ l. IsOnePair l z text)) (sym c.new.ensures.value)
    (format-of c.args.format.now c.in_ok-parts.parts.now (ScansItems empty.result fields text []) (λ (l : List Item). IsOnePair l (date_time c.in_ok-date.date c.in_ok-time.time) text) parts.few parts.value parts.length (c.scan_whole.ensures c.if-not-scan_whole.false)
    (λ items scan.
    let are = scan.has.shown [] empty.ensures.shown in
    one-pair items fields text c.in_ok-date.date c.in_ok-time.time (whole items empty.result fields text [] scan.has refl empty.ensures.zero) are.marks scan.apart (sym (c.are_within.ensures items are) ∙ c.if-not-are_within.false) c.in_ok-date.ensures.value c.in_ok-time.ensures.value))
