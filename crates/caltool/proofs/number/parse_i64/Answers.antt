use Rattle.std.proofs.Common.{◌∙◌, sym, get_or}
use Rattle.std.proofs.lemmas.Bool.{eqb-false}
use Rattle.caltool.proofs.Numbers.{parsed, not_text}
use Rattle.caltool.proofs.number.parse_i64.Goals as goal

pub returns-in_default : goal.returns-in_default
returns-in_default c =
    let plain = eqb-false (get_or c.args.word.now 0 0) 43 (sym c.begins_with_plus.ensures ∙ c.if-begins_with_plus.false) in
    not_text c.args.word.now plain c.in_default.ensures.cases.0

pub returns : goal.returns
returns c =
    let plain = eqb-false (get_or c.args.word.now 0 0) 43 (sym c.begins_with_plus.ensures ∙ c.if-begins_with_plus.false) in
    c.ok.ensures.value
    ∙ parsed c.args.word.now c.parse.result plain (rw c.in-Ok.ensures.cases.0 at c.parse.ensures.value.0)
