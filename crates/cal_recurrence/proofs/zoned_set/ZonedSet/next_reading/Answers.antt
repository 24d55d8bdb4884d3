use Rattle.std.proofs.Common.{◌≡◌, subst, Some, None}
use Rattle.cal_datetime.specs.DateTime.{IsDateTime}
use Rattle.cal_recurrence.proofs.ZonedSearch.{next-reading}
use Rattle.cal_recurrence.proofs.zoned_set.ZonedSet.next_reading.Goals as goal

pub returns-in_default : goal.returns-in_default
returns-in_default c =
    next-reading c.args.self.now c.args.reading c.next_after.result c.up_to-found.result None c.date.ensures.in_range (λ y e. absurd (cc))
    c.next_after.ensures c.up_to-found.ensures c.in_default.ensures

pub returns : goal.returns
returns c =
    let next = c.in-Some.next in
    next-reading c.args.self.now c.args.reading c.next_after.result c.up_to-found.result (Some next) c.date.ensures.in_range
    (λ y e. let is : next ≡ y = cc in subst IsDateTime is c.date-2.ensures.in_range) c.next_after.ensures c.up_to-found.ensures c.in-Some.ensures
