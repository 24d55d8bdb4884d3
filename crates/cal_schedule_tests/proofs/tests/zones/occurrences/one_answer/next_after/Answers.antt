use Rattle.std.proofs.Common.{sym, subst}
use Rattle.cal_datetime.specs.OffsetDateTime.{instant}
use Rattle.cal_recurrence.specs.ZonedSet.{IsNextAfter, Occurs}
use Rattle.cal_recurrence.proofs.ZonedSearch.{next-one, IsUnique}
use Rattle.cal_schedule_tests.proofs.tests.zones.occurrences.one_answer.next_after.Goals as goal

pub returns : goal.returns
returns c same =
    next-one c.args.set.now (subst IsUnique (sym same) c.one_local.ensures) _ _ _ c.next_after.ensures.value
    (subst (λ s. IsNextAfter (Occurs s) (instant c.args.moment) c.next_after-2.result) c.next_after.ensures.same c.next_after-2.ensures.value)
