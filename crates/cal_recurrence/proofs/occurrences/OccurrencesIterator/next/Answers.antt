use Rattle.std.proofs.Common.{◌≡◌, ◌∙◌, ◌<◌, ap, subst, sym, Some}
use Rattle.cal_datetime.specs.OffsetDateTime.{instant}
use Rattle.cal_recurrence.specs.Occurrences.{nanoseconds_left}
use Rattle.cal_recurrence.specs.ZonedSet.{IsNextAfter, Occurs}
use Rattle.cal_recurrence.proofs.ZonedSearch.{fewer-left}
use Rattle.cal_recurrence.proofs.occurrences.OccurrencesIterator.next.Goals as goal

pub returns-clause-steps : goal.returns-clause-steps
returns-clause-steps c =
    let set-is = ap (λ walk. walk.set) c.self.view_is in
    let next = c.next_after-self-inside in (
      sym c.in_ok-item.was ∙ ap (λ walk. walk.front) c.self.view_is,
      (next.ensures.same ∙ set-is, subst (λ set. IsNextAfter (Occurs set) (instant c.in_ok-item.item) next.result) set-is next.ensures.value),
    )

pub returns-clause-goes : goal.returns-clause-goes
returns-clause-goes c =
    let front : Some c.in_ok-item.item ≡ c.args.self.now.front = sym c.in_ok-item.was ∙ ap (λ walk. walk.front) c.self.view_is in
    let fewer : nanoseconds_left c.next_after-self-inside.result < nanoseconds_left c.args.self.now.front = subst (λ f. nanoseconds_left c.next_after-self-inside.result < nanoseconds_left f) front
    (fewer-left c.self.inside.set c.in_ok-item.item c.next_after-self-inside.result c.next_after-self-inside.ensures.value) in
    record { on = λ _. (tt, tt, fewer); keeps = tt; rests = λ _. tt }
