use Rattle.cal_c.proofs.Distinct.{AreMoved}
use Rattle.cal_c.proofs.schedule.workdays.sorting.move_distinct.Given as goal

abbrev pub invariant-loop-index : goal.invariant-loop-index
invariant-loop-index l = AreMoved l.initial.numbers l.numbers l.kept l.index
