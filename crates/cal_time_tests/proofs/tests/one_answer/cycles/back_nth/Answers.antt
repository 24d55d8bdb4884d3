use Rattle.cal_time.proofs.OneAnswer.{nth_back-one}
use Rattle.cal_time_tests.proofs.tests.one_answer.cycles.back_nth.Goals as goal

pub returns : goal.returns
returns g c =
    let cycle = g.met.C.Cycle in
    let r = rw (c.rev-walk.ensures, c.new.ensures) at c.nth.ensures in
    let s = rw (c.rev-walk-2.ensures, c.new-2.ensures) at c.nth-2.ensures in
    nth_back-one g.C.Cycle cycle.index_below cycle.value_at_index c.args.n c.args.start _ _ r s
