use Rattle.std.proofs.Common.{◌+◌, ◌∙◌, sym, ap, arith, length, ◌∷◌}
use Rattle.std.specs.Prelude.{unsigned_abs}
use Rattle.cal_recurrence.specs.DateTimeSet.{is_in_set, set_readings_left}
use Rattle.cal_recurrence.proofs.RuleOccurrences.{left-from}
use Rattle.cal_recurrence.proofs.date_time_set.DateTimeSetReadingsIterator.next.Goals as goal

pub returns-clause-steps : goal.returns-clause-steps
returns-clause-steps c =
    let walk = c.self.inside in
    sym c.self.view_is ∙ ap (set_readings_left walk.set) c.in_ok-item.was
    ∙ ap (λ readings. c.in_ok-item.item ∷ readings)
    (sym (left-from (is_in_set walk.set) (unsigned_abs c.in_ok-item.item + 1) c.next_after-self-inside.result c.next_after-self-inside.ensures.value)
    ∙ sym (ap (λ set. set_readings_left set c.next_after-self-inside.result) c.next_after-self-inside.ensures.same))

pub returns-clause-goes : goal.returns-clause-goes
returns-clause-goes c = record { on = λ _. (tt, tt, omega (arith, ap length (returns-clause-steps c))); keeps = tt; rests = λ _. tt }
