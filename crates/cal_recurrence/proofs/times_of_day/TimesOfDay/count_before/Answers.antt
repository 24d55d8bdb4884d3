use Rattle.std.proofs.Common.{◌∙◌, arith}
use Rattle.cal_recurrence.proofs.TimeTests.{count-times}
use Rattle.cal_recurrence.proofs.times_of_day.TimesOfDay.count_before.Goals as goal

pub returns-clause-value : goal.returns-clause-value
returns-clause-value c =
    c.count_seconds.ensures.value
    ∙ count-times c.args.self.now c.args.own c.args.end _ (omega arith) c.requires (omega (arith, c.nanosecond.ensures, c.from.ensures))
