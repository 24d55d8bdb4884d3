use Rattle.std.proofs.Common.{◌<◌, length, subst, sym}
use Rattle.cal_recurrence.specs.Words.{parts_left}
use Rattle.caldate_args.specs.Events.{AreValid}
use Rattle.caldate_args.proofs.ValidEvents.{fewer_lines, no_lines, no_more, one_more_valid}
use Rattle.caldate_args.proofs.events.find_zone.Goals as goal

pub loop-rest-preserved : goal.loop-rest-preserved
loop-rest-preserved c = λ rest.
    let (begin, size, event) = rw c.in-Ok-Some.field-0-is at c.in-Ok-Some.ensures in
    c.loop-rest.invariant (subst (λ left. AreValid (parts_left 10 left)) (sym c.in-Some.is)
    (one_more_valid c.in-Some.left.now begin size c.in-Ok-Some.event event c.in-Ok.ensures rest))

pub loop-rest-smaller : goal.loop-rest-smaller
loop-rest-smaller c =
    let (begin, size, event) = rw c.in-Ok-Some.field-0-is at c.in-Ok-Some.ensures in
    subst (λ left. length (parts_left 10 c.in-Ok-Some.event.rest) < length (parts_left 10 left)) (sym c.in-Some.is)
    (fewer_lines c.in-Some.left.now begin size c.in-Ok-Some.event event)

pub returns-in-Ok-None : goal.returns-in-Ok-None
returns-in-Ok-None c =
    let none = rw c.in-Ok-None.field-0-is at c.in-Ok-None.ensures in
    c.loop-rest.invariant (subst (λ left. AreValid (parts_left 10 left)) (sym c.in-Some.is) (no_more c.in-Some.left.now none))

pub returns : goal.returns
returns c = c.loop-rest.invariant (subst (λ left. AreValid (parts_left 10 left)) (sym c.in_default.is) no_lines)
