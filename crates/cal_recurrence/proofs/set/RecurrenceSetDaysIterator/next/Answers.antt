use Rattle.std.proofs.Common.{◌∙◌, sym, ap, arith, length, ◌∷◌}
use Rattle.cal_recurrence.specs.Sets.{set_days_left}
use Rattle.cal_recurrence.proofs.Sets.{left_after}
use Rattle.cal_recurrence.proofs.set.RecurrenceSetDaysIterator.next.Goals as goal

pub returns-clause-steps : goal.returns-clause-steps
returns-clause-steps c =
    let walk = c.self.inside in
    sym c.self.view_is ∙ ap (set_days_left walk.set) c.in_ok-item.was
    ∙ ap (λ days. c.in_ok-item.item ∷ days) (sym (left_after walk.set c.in_ok-item.item c.next_day-self-inside.result c.next_day-self-inside.ensures.value))

pub returns-clause-goes : goal.returns-clause-goes
returns-clause-goes c = record { on = λ _. (tt, tt, omega (arith, ap length (returns-clause-steps c))); keeps = tt; rests = λ _. tt }
