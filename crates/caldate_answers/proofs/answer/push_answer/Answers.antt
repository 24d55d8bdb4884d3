use Rattle.std.proofs.Common.{subst, sym}
use Rattle.caldate_answers.specs.Readers.{IsUnreadIn}
use Rattle.caldate_answers.specs.declared.reading.Reading.TheVariants.{Any}
use Rattle.caldate_answers.proofs.Lacks.{is_unread}
use Rattle.caldate_answers.proofs.ReadWith.{no_text_in, read_first}
use Rattle.caldate_answers.proofs.answer.push_answer.Goals as goal

pub push_found-requires-clause-read : goal.push_found-requires-clause-read
push_found-requires-clause-read c =
    read_first c.args.filter.now c.args.text.now c.in-Ok.found (c.reads_six_forms.ensures.forms c.if-reads_six_forms.true) (c.reads_six_forms.ensures.clock c.if-reads_six_forms.true) c.in-Ok.ensures.has

pub push_by_others-requires-clause-unread : goal.push_by_others-requires-clause-unread
push_by_others-requires-clause-unread c = no_text_in c.args.text.now c.in-Err.error c.in-Err.ensures.every

pub push_by_others-requires-clause-why : goal.push_by_others-requires-clause-why
push_by_others-requires-clause-why c =
    subst (IsUnreadIn Any c.args.text.now) (sym c.reason_of.ensures)
    (is_unread Any c.args.text.now c.in-Err.error c.in-Err.ensures.form c.in-Err.ensures.component c.in-Err.ensures.position)
