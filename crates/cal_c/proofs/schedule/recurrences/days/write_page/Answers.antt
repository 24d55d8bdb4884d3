use Rattle.std.proofs.Common.{◌∙◌, ap, drop, subst}
use Rattle.cal_c.specs.Recurrences.{AreDatesWritten}
use Rattle.cal_c.proofs.schedule.recurrences.days.write_page.Goals as goal

pub returns-clause-written : goal.returns-clause-written
returns-clause-written c = subst (λ days. AreDatesWritten days c.args.days.now c.write_left.new.days c.write_left.result) c.skip_to.ensures c.write_left.ensures.written

pub returns-clause-others : goal.returns-clause-others
returns-clause-others c = c.write_left.ensures.others ∙ ap (drop c.write_left.result) c.skip_to.ensures
