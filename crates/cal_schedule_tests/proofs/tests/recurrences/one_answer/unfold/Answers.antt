use Rattle.cal_recurrence.proofs.Unfolding.{one_copy}
use Rattle.cal_schedule_tests.proofs.tests.recurrences.one_answer.unfold.Goals as goal

pub returns-clause-result : goal.returns-clause-result
returns-clause-result c = (one_copy c.args.text.now c.args.a.now c.args.b.now _ _ _ _ c.requires c.unfold.ensures.value c.unfold-2.ensures.value).0

pub returns-clause-text : goal.returns-clause-text
returns-clause-text c = (one_copy c.args.text.now c.args.a.now c.args.b.now _ _ _ _ c.requires c.unfold.ensures.value c.unfold-2.ensures.value).1
