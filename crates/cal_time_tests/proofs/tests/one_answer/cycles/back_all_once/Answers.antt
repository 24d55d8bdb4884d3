use Rattle.std.proofs.Common.{true}
use Rattle.cal_time.proofs.OneAnswer.{asked-one}
use Rattle.cal_time_tests.proofs.tests.one_answer.cycles.back_all_once.Goals as goal

pub returns : goal.returns
returns g c = asked-one g.C.Cycle (goal.F-step g) true c.requires.steps 0 c.args.f _ _ c.all_once.ensures.value c.all_once-2.ensures.value
