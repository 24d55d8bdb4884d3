use Rattle.std.proofs.Common.{◌∙◌, List, ℕ, inr, subst, sym}
use Rattle.caldate_answers.specs.Answers.{IsAnswerTo, IsWhyUnanswered}
use Rattle.caldate_answers.proofs.OneAnswer.{left_out}
use Rattle.caldate_answers.proofs.answer.push_found.Goals as goal

pub returns-then-compares-clause-answered : goal.returns-then-compares-clause-answered
returns-then-compares-clause-answered c =
    let filter = c.args.filter.now in
    let none = c.push_answer_to.ensures.none c.if-push_answer_to.false in
    let out = left_out c.args.clock.now filter.workdays filter.request c.args.text.now c.args.found.now none.1 in
    (none.0, (c.args.found.now, c.requires.read, out ∙ sym c.compares.ensures ∙ c.if-compares.true))

pub returns-else-compares-clause-answered : goal.returns-else-compares-clause-answered
returns-else-compares-clause-answered c =
    let filter = c.args.filter.now in
    let none = c.push_answer_to.ensures.none c.if-push_answer_to.false in
    let out = left_out c.args.clock.now filter.workdays filter.request c.args.text.now c.args.found.now none.1 in
    let lacks = subst (λ o. (words : List ℕ) → ¬ IsAnswerTo o filter.workdays filter.request c.args.text.now c.args.found.now words) (sym c.requires.clock) none.1 in
    let why = subst (λ o. IsWhyUnanswered o filter.workdays filter.request c.args.found.now c.why_unanswered.result) (sym c.requires.clock) c.why_unanswered.ensures in
    (none.0, inr (c.args.found.now, c.requires.read, (out ∙ sym c.compares.ensures ∙ c.if-compares.false, lacks, why)))

pub returns-then-push_answer_to-clause-answered : goal.returns-then-push_answer_to-clause-answered
returns-then-push_answer_to-clause-answered c =
    let filter = c.args.filter.now in
    let put = c.push_answer_to.ensures.has c.if-push_answer_to.true in
    let answered = subst (λ o. IsAnswerTo o filter.workdays filter.request c.args.text.now c.args.found.now put.0) (sym c.requires.clock) put.2 in
    (put.0, put.1, (c.args.found.now, c.requires.read, answered))
