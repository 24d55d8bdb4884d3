use Rattle.std.proofs.Common.{◌≡◌, ◌∙◌, ap, subst, sym}
use Rattle.std.specs.Prelude.{◌||◌, not, true}
use Rattle.cal_format.specs.Variants.{pads_with_spaces}
use Rattle.cal_format.specs.declared.item.Item.TheVariants.{Name, Number}
use Rattle.caldate_answers.specs.VariantFronts.{CutsAt}
use Rattle.caldate_answers.proofs.VariantFronts.{cuts-name, cuts-number}
use Rattle.caldate_answers.proofs.scan.variant_bound.item_length.Goals as goal
use Rattle.caldate_answers.proofs.scan.variant_bound.item_length.Goals.{then-after, else-after}

pub returns-then-not-pads_with_spaces-clause-cuts : goal.returns-then-not-pads_with_spaces-clause-cuts
returns-then-not-pads_with_spaces-clause-cuts c =
    let component = c.in-Number.component in
    let padding = c.in-Number.padding in
    let bytes = c.args.bytes.now in
    let free = sym c.is_free.ensures ∙ c.if-is_free.true in
    let bare : (c.args.after || not (pads_with_spaces padding)) ≡ true = elim c.if-after.branch as (λ _. (c.args.after || not (pads_with_spaces padding)) ≡ true) [
      | then-after w ↦ ap (λ after. after || not (pads_with_spaces padding)) w.if-after.true
      | else-after w ↦ ap (λ after. after || not (pads_with_spaces padding)) w.if-after.false
          ∙ (ap not (sym w.pads_with_spaces.ensures) ∙ (sym w.value-is ∙ c.if-not-pads_with_spaces.true))
    ] in
    subst (λ i. CutsAt c.args.after i bytes c.run_length.result) (sym c.in-Number.is)
    (subst (CutsAt c.args.after (Number component padding) bytes) (sym c.run_length.ensures.value) (cuts-number c.args.after component padding bytes free bare))

pub returns-in-Name-clause-cuts : goal.returns-in-Name-clause-cuts
returns-in-Name-clause-cuts c =
    let bytes = c.args.bytes.now in
    subst (λ i. CutsAt c.args.after i bytes c.run_length-in-Name.result) (sym c.in-Name.is)
    (subst (CutsAt c.args.after (Name c.in-Name.field-0) bytes) (sym c.run_length-in-Name.ensures.value) (cuts-name c.args.after c.in-Name.field-0 bytes))
