use Rattle.cal_recurrence.proofs.FoldedParts.{one_put}
use Rattle.cal_schedule_tests.proofs.tests.recurrences.one_answer.fold.Goals as goal

pub returns-clause-result : goal.returns-clause-result
returns-clause-result c = (one_put c.args.text.now c.args.a.now c.args.b.now _ _ _ _ c.requires c.fold.ensures.text c.fold-2.ensures.text).0

pub returns-clause-text : goal.returns-clause-text
returns-clause-text c = (one_put c.args.text.now c.args.a.now c.args.b.now _ _ _ _ c.requires c.fold.ensures.text c.fold-2.ensures.text).1
