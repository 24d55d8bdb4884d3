use Rattle.std.proofs.Common.{ap, sym, ◌∙◌, slice_get}
use Rattle.cal_recurrence.specs.DateTimeSet.{is_in_set}
use Rattle.cal_recurrence.proofs.DateTimeSets.{from-here, from-next}
use Rattle.cal_recurrence.proofs.date_time_set.DateTimeSet.first_from.Goals as goal

pub returns-then-contains : goal.returns-then-contains
returns-then-contains c = from-here (is_in_set c.args.self.now) c.args.reading c.contains.ensures.in_range (sym c.contains.ensures.value ∙ c.if-contains.true)

pub returns-else-contains : goal.returns-else-contains
returns-else-contains c =
    c.next_after.ensures.value
    ∙ ap (λ l. slice_get l 0) (sym (from-next (is_in_set c.args.self.now) c.args.reading c.contains.ensures.in_range (sym c.contains.ensures.value ∙ c.if-contains.false)))
