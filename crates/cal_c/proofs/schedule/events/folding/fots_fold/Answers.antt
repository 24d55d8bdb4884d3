use Rattle.std.proofs.Common.{arith}
use Rattle.cal_c.proofs.CalendarLines.{folded-few}
use Rattle.cal_c.proofs.schedule.events.folding.fots_fold.Goals as goal

pub returns-in-None-clause-value : goal.returns-in-None-clause-value
returns-in-None-clause-value c room =
    let short = c.in-None.ensures.text in
    absurd (omega (arith, room, short.1.1, folded-few c.args.text.now short.0 short.1.0))
