use Rattle.std.proofs.Common.{subst}
use Rattle.cal_schedule.specs.Workdays.{WorkWeek}
use Rattle.caldate_answers.specs.ClockMoves.{IsMovedOn}
use Rattle.caldate_answers.specs.declared.request.Move.{Move}
use Rattle.caldate_run.specs.Steps.{step_move}
use Rattle.caldate_run.proofs.list.moments.step_to.Goals as goal

pub returns : goal.returns
returns c =
    let moments = c.args.moments.now in
    subst (λ (workdays : WorkWeek). IsMovedOn moments.clock workdays (step_move moments.step.unit c.args.count) moments.first c.moved_on.result) c.workdays.ensures
    (subst (λ (by : Move). IsMovedOn moments.clock c.workdays.result by moments.first c.moved_on.result) c.step_move-by.ensures c.moved_on.ensures)
