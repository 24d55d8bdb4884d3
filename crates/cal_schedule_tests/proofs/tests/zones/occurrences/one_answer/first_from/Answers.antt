use Rattle.std.proofs.Common.{◌-ℤ◌, pos, sym, subst}
use Rattle.cal_datetime.specs.OffsetDateTime.{instant}
use Rattle.cal_recurrence.specs.ZonedSet.{IsNextAfter, Occurs}
use Rattle.cal_recurrence.proofs.ZonedSearch.{next-one, IsUnique}
use Rattle.cal_schedule_tests.proofs.tests.zones.occurrences.one_answer.first_from.Goals as goal

pub returns : goal.returns
returns c same =
    next-one c.args.set.now (subst IsUnique (sym same) c.one_local.ensures) _ _ _ c.first_from.ensures.value
    (subst (λ s. IsNextAfter (Occurs s) (instant c.args.moment -ℤ pos 1) c.first_from-2.result) c.first_from.ensures.same c.first_from-2.ensures.value)
