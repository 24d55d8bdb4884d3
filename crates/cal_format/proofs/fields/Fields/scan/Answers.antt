use Rattle.std.proofs.Common.{◌≡◌, ◌∷◌, refl, sym, subst, ◌∙◌}
use Rattle.std.specs.Prelude.{IsTrue}
use Rattle.cal_format.specs.Reading.{is_component}
use Rattle.cal_format.specs.Scanning.IsNoField.{marked, out_of_range}
use Rattle.cal_format.proofs.OnePass.{byte-field, byte-form, byte-mismatch, some-holds, some-error}
use Rattle.cal_format.proofs.fields.Fields.scan.Goals as goal

pub returns-then-has : goal.returns-then-has
returns-then-has c =
    let own = c.has.ensures.marked c.if-has.true in
    record {
      value = λ h. cc;
      other = λ e. marked own.0 (subst (λ o. IsTrue (is_component own.0 o)) c.component-component.ensures own.1) own.2;
      unchanged = λ e. refl;
    }

pub returns-in-Literal : goal.returns-in-Literal
returns-in-Literal c =
    let text = c.args.scanner.now.rest.now in
    let rest = c.byte.new.self.rest.now in
    record {
      value = λ h.
          let some = sym c.is_some.ensures ∙ h in
          byte-field c.args.item c.in-Literal.byte c.args.self.now text rest c.in-Literal.is (some-holds c.byte.result (text ≡ c.in-Literal.byte ∷ rest) some c.byte.ensures.value)
          (byte-form c.in-Literal.byte text rest c.byte.result some c.byte.ensures.scans);
      other = λ e. byte-mismatch c.args.item c.in-Literal.byte c.args.self.now text rest c.byte.result c.in-Literal.is (sym c.is_some.ensures ∙ e) c.byte.ensures.scans;
      unchanged = λ e. refl;
    }

pub returns-in-Some-error : goal.returns-in-Some-error
returns-in-Some-error c = record {
  value = λ h. cc;
  other = λ e. out_of_range c.in-Some.number c.scan_item.new.scanner.rest.now c.in-Some.ensures.value c.in-Some.ensures.scans (some-error _ _ (sym c.error.ensures ∙ c.in-Some-error.is));
  unchanged = λ e. refl;
}
