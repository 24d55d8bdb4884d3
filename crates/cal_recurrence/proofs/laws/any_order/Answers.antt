use Rattle.std.proofs.Common.{◌∙◌, sym}
use Rattle.cal_recurrence.specs.Text.{parts_in}
use Rattle.cal_recurrence.proofs.PartOrder.{rule_text, said_in_order}
use Rattle.std.proofs.lemmas.List.Sorted.{IsPermutation-sym}
use Rattle.cal_recurrence.proofs.laws.any_order.Goals as goal

pub returns : goal.returns
returns c same r =
    let one = rule_text c.args.text.now r in
    let other = rule_text c.args.other.now r in
    let texts = parts_in c.args.text.now in
    let others = parts_in c.args.other.now in (
      λ e. c.parse-2.ensures.value ∙ other.1 (said_in_order texts others r same (one.0 (sym c.parse.ensures.value ∙ e))),
      λ e. c.parse.ensures.value ∙ one.1 (said_in_order others texts r (IsPermutation-sym texts others same) (other.0 (sym c.parse-2.ensures.value ∙ e))),
    )
