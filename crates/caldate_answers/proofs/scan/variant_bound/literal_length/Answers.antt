use Rattle.std.proofs.Common.{◌∙◌, subst, sym}
use Rattle.cal_format.specs.declared.item.Item.TheVariants.{Literal}
use Rattle.caldate_answers.specs.VariantFronts.{CutsAt, run_length}
use Rattle.caldate_answers.specs.declared.scan.variant_bound.ByteClass.TheVariants.{Space}
use Rattle.caldate_answers.proofs.VariantFronts.{cuts-space}
use Rattle.caldate_answers.proofs.scan.variant_bound.literal_length.Goals as goal

pub returns-else-after-clause-cuts : goal.returns-else-after-clause-cuts
returns-else-after-clause-cuts c =
    let literal = c.args.literal in
    let bytes = c.args.bytes.now in
    let cut = cuts-space literal bytes (sym c.is_space.ensures ∙ c.if-is_space.true) in
    subst (λ count. CutsAt c.args.after (Literal literal) bytes count) (sym c.run_length.ensures.value)
    (subst (λ after. CutsAt after (Literal literal) bytes (run_length Space bytes)) (sym c.if-after.false) cut)
