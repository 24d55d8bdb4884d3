use Rattle.cal_datetime_tests.proofs.OneNamedAnswer.{one-check}
use Rattle.cal_datetime_tests.proofs.tests.formats.one_answer.named.check_names_twice.Goals as goal

pub returns : goal.returns
returns c = one-check c.args.names.now c.args.items.now _ _ c.check_names.ensures.reads c.check_names-2.ensures.reads c.check_names.ensures.error c.check_names-2.ensures.error
