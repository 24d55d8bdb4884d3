use Rattle.std.proofs.Common.{◌≡◌, ◌∙◌, sym, ap}
use Rattle.cal_recurrence.specs.Sets.{set_days_from, set_days_left}
use Rattle.cal_recurrence.proofs.Sets.{from_here, from_next}
use Rattle.cal_recurrence.proofs.set.RecurrenceSet.days_from.Goals as goal
use Rattle.cal_recurrence.proofs.set.RecurrenceSet.days_from.Goals.{then-contains, else-contains}

pub returns : goal.returns
returns c =
    let set = c.args.self.now in
    let date = c.args.date in
    let on = c.contains.ensures in
    let front : set_days_left set c.if-contains.front ≡ set_days_from set date = elim c.if-contains.branch [
      | then-contains w ↦ ap (set_days_left set) w.front-is ∙ from_here set date on.in_range (sym on.value ∙ w.if-contains.true)
      | else-contains w ↦
          ap (set_days_left set) w.front-is
          ∙ from_next set date w.next_day-front.result on.in_range (sym on.value ∙ w.if-contains.false) w.next_day-front.ensures.value
    ] in
    ap (λ its. set_days_left its c.if-contains.front) c.copy-set.ensures ∙ front
