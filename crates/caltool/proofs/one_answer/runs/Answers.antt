use Rattle.caltool.proofs.OneAnswer.{ended-one}
use Rattle.caltool.proofs.one_answer.runs.Goals as goal

pub returns : goal.returns
returns g c input held given alike old other same no_write =
    let first = rw (given, old) at c.ended.ensures in
    let second = rw (alike, other, ← same) at c.ended-2.ensures in
    ended-one input held _ _ _ _ _ first second no_write
