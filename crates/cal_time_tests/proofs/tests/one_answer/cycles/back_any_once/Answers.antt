use Rattle.std.proofs.Common.{false}
use Rattle.cal_time.proofs.OneAnswer.{asked-one}
use Rattle.cal_time_tests.proofs.tests.one_answer.cycles.back_any_once.Goals as goal

pub returns : goal.returns
returns g c = asked-one g.C.Cycle (goal.F-step g) false c.requires.steps 0 c.args.f _ _ c.any_once.ensures.value c.any_once-2.ensures.value
