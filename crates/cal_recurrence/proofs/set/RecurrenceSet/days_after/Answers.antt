use Rattle.std.proofs.Common.{◌∙◌, ap}
use Rattle.cal_recurrence.specs.Sets.{set_days_left}
use Rattle.cal_recurrence.proofs.Sets.{left_after}
use Rattle.cal_recurrence.proofs.set.RecurrenceSet.days_after.Goals as goal

pub returns : goal.returns
returns c =
    let front = c.next_day-front in
    ap (λ set. set_days_left set front.result) c.copy-set.ensures ∙ left_after c.args.self.now c.args.date front.result front.ensures.value
