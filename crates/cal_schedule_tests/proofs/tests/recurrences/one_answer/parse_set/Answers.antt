use Rattle.cal_recurrence.proofs.SetSteps.{one-set}
use Rattle.cal_schedule_tests.proofs.tests.recurrences.one_answer.parse_set.Goals as goal

pub returns : goal.returns
returns c = one-set c.args.text.now _ _ c.parse_set.ensures.value c.parse_set-2.ensures.value
