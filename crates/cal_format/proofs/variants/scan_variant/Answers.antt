use Rattle.std.proofs.Common.{◌≡◌, ◌++◌, ◌∙◌, sym, ap, subst}
use Rattle.std.specs.Prelude.{IsTrue, not}
use Rattle.cal_format.specs.Form.{numbered_item, IsNumber}
use Rattle.cal_format.specs.Lenient.{IsLenientlyEnded}
use Rattle.cal_format.specs.Variants.{is_exact}
use Rattle.cal_format.proofs.VariantScans.{exact-variant, other-exact}
use Rattle.cal_format.proofs.variants.scan_variant.Goals.{in_default-via-in-Number+else-is_free, in_default-via-in-Literal+else-is_space, in_default-via-in_default}
use Rattle.cal_format.proofs.variants.scan_variant.Goals as goal

pub returns-in_default-clause-every : goal.returns-in_default-clause-every
returns-in_default-clause-every c n front rest v ended e =
    let exact = elim c.in_default.branch as (λ _. (IsTrue (is_exact c.args.item)) × (c.in_default.item ≡ c.args.item)) [
      | in_default-via-in-Number+else-is_free w ↦ (subst (λ i. IsTrue (is_exact i)) (sym w.in-Number.is) (sym (ap not w.if-is_free.ensures)), w.item-is ∙ sym w.in-Number.is)
      | in_default-via-in-Literal+else-is_space w ↦ (subst (λ i. IsTrue (is_exact i)) (sym w.in-Literal.is) (sym (ap not w.if-is_space.ensures)), w.item-is ∙ sym w.in-Literal.is)
      | in_default-via-in_default w ↦ (other-exact c.args.item w.in_default.not-Literal w.in_default.not-Number w.in_default.not-Name, w.item-is)
    ] in
    let is = exact-variant c.args.after c.args.item n front exact.0 v in
    c.scan_exact.ensures.every n rest (subst (λ i. IsTrue (is_exact i)) (sym exact.1) exact.0) (subst (λ i. IsNumber i n) (sym exact.1) is.0) (subst (λ i. IsLenientlyEnded i rest) (sym exact.1) ended)
    (e ∙ ap (λ l. l ++ rest) is.1 ∙ ap (λ i. numbered_item i n ++ rest) (sym exact.1))
