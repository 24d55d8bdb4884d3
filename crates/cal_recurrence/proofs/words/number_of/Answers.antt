use Rattle.std.proofs.Common.{◌≢◌, ◌∙◌, sym, get_or}
use Rattle.std.proofs.lemmas.Bool.{eq-eqb, false≢true}
use Rattle.cal_recurrence.proofs.Numbers.{parsed, not_text}
use Rattle.cal_recurrence.proofs.words.number_of.Goals as goal

pub returns-in_default : goal.returns-in_default
returns-in_default c = not_text c.args.word.now c.in_default.ensures.cases.0

pub returns : goal.returns
returns c =
    let plain : get_or c.args.word.now 0 0 ≢ 43 = λ e. false≢true (sym c.if-begins_with_plus.false ∙ c.begins_with_plus.ensures ∙ eq-eqb _ _ e) in
    c.ok.ensures.value ∙ parsed c.args.word.now c.parse.result (rw c.in-Ok.ensures.cases.0 at c.parse.ensures.value.0) plain
