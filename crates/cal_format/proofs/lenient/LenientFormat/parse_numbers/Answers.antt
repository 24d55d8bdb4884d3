use Rattle.std.proofs.Common.{◌∙◌, sym, subst, refl}
use Rattle.cal_format.specs.Form.{AreNumbers}
use Rattle.cal_format.proofs.Known.{known-fit}
use Rattle.cal_format.proofs.lenient.LenientFormat.parse_numbers.Goals as goal

pub fields_of-requires : goal.fields_of-requires
fields_of-requires c =
    let f = c.args.self.now in
    let fit = known-fit f.pivot f.format c.scan_known.new.numbers c.args.text.now (c.in_ok-known.ensures.some.0 refl).pivot (c.if-not-scan_known.ensures.value refl) in
    record { fit = subst (λ l. AreNumbers l c.scan_known.new.numbers) (sym (c.items-2.ensures.items ∙ c.in_ok-known.ensures.items)) fit }
