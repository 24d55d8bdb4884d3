use Rattle.std.proofs.Common.{subst}
use Rattle.cal_recurrence.specs.ZonedSet.{IsNextAfter, Occurs}
use Rattle.cal_recurrence.proofs.counted_zoned_set.CountedZonedSet.occurrences.Goals as goal

pub returns-clause-first : goal.returns-clause-first
returns-clause-first c = subst (λ x. IsNextAfter (Occurs c.args.self) x c.first_from-front.result) c.first_moment.ensures c.first_from-front.ensures.value
