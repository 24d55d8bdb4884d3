use Rattle.std.proofs.Common.{sym, ◌∙◌, arith}
use Rattle.std.proofs.lemmas.Bool.{eqb-true, eq-eqb, false≢true}
use Rattle.cal_names.proofs.Fronts.{continued, continued-byte, is-begun}
use Rattle.cal_names.proofs.table.goes_on.Goals as goal

pub returns-then-not-begins_with : goal.returns-then-not-begins_with
returns-then-not-begins_with c =
    let off = sym c.begins_with.ensures ∙ c.if-not-begins_with.true in
    (λ t. absurd (false≢true t), λ h. absurd (false≢true (sym off ∙ is-begun c.args.text.now c.args.other.now c.args.byte h)))

pub returns : goal.returns
returns c =
    let on = sym c.begins_with.ensures ∙ c.if-not-begins_with.false in (
      λ t. continued c.args.text.now c.args.other.now c.args.byte 0 (omega (arith, c.if-other-text.false)) (eqb-true _ c.args.byte t) on,
      λ h. eq-eqb _ c.args.byte (continued-byte c.args.text.now c.args.other.now c.args.byte 0 h),
    )
