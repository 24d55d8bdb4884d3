use Rattle.std.proofs.Common.{sym}
use Rattle.caldate_answers.specs.Answers.{IsAnswer}
use Rattle.caldate_answers.specs.Targets.{IsAnswerAt}
use Rattle.caldate_answers.proofs.Appends.{puts_other}
use Rattle.caldate_run.proofs.Others.{by_itself}
use Rattle.caldate_run.proofs.run.other.push_answer_at.Goals as goal

pub returns-in-None-clause-answered : goal.returns-in-None-clause-answered
returns-in-None-clause-answered c =
    let filter = c.args.filter.now in
    let text = c.args.text.now in
    let asked = c.args.asked.now in
    puts_other (IsAnswer filter asked) (IsAnswerAt filter text asked) c.push_answer.result _ _ (λ answer h. by_itself filter text asked answer (sym c.in-None.ensures) h) c.push_answer.ensures.answered
