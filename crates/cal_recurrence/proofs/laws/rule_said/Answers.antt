use Rattle.std.proofs.Common.{◌∙◌, sym}
use Rattle.cal_recurrence.proofs.PartOrder.{rule_text}
use Rattle.cal_recurrence.proofs.laws.rule_said.Goals as goal

pub returns : goal.returns
returns c r =
    let both = rule_text c.args.text.now r in
    (λ e. both.0 (sym c.parse.ensures.value ∙ e), λ h. c.parse.ensures.value ∙ both.1 h)
