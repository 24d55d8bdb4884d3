use Rattle.std.proofs.Common.{◌≡◌, ◌∙◌, ap, sym, true, slice_get, Some}
use Rattle.cal_recurrence.specs.CountedSet.{first_number}
use Rattle.cal_recurrence.specs.DateTimeRule.{is_not_after, readings_from}
use Rattle.cal_recurrence.specs.DateTimeSet.{is_in_set}
use Rattle.cal_recurrence.proofs.CountedSets.{in-order, settled}
use Rattle.cal_recurrence.proofs.counted_set.CountedSet.search.Goals as goal
use Rattle.cal_recurrence.proofs.counted_set.CountedSet.search.Goals.{then-after, else-after}

pub returns-then-is_not_after-clause-value : goal.returns-then-is_not_after-clause-value
returns-then-is_not_after-clause-value c =
    let set = c.loop-self.self-inside.set in
    let left = c.loop-self.self-inside.left.readings in
    let reading = c.args.reading in
    let n = first_number c.args.after reading in
    let next = c.in-Some.next in
    let found : Some next ≡ slice_get (readings_from (is_in_set set) n) 0 =
    elim c.if-after.branch as (λ _. Some next ≡ slice_get (readings_from (is_in_set set) n) 0) [
      | then-after w ↦ sym c.in-Some.is ∙ w.found-is ∙ w.next_after-found.ensures.value ∙ ap (λ a. slice_get (readings_from (is_in_set set) (first_number a reading)) 0) (sym w.if-after.true)
      | else-after w ↦ sym c.in-Some.is ∙ w.found-is ∙ w.first_from-found.ensures ∙ ap (λ a. slice_get (readings_from (is_in_set set) (first_number a reading)) 0) (sym w.if-after.false)
    ] in
    let by : is_not_after set.rule.until next ≡ true = sym c.is_not_after.ensures ∙ c.if-is_not_after.true in
    settled set left n next (in-order set.rule c.loop-self.self-inside.left.left left c.loop-self.invariant.counted) by found ∙ ap (λ s. slice_get (readings_from (is_in_set s) n) 0) c.loop-self.invariant.whole
