use Rattle.std.proofs.Common.{◌<◌, length, subst, sym}
use Rattle.cal_recurrence.specs.Words.{parts_left}
use Rattle.caldate_args.proofs.ValidEvents.{fewer_lines}
use Rattle.caldate_run.specs.Events.{bound}
use Rattle.caldate_run.proofs.EventTimes.{earliest_of_all, none_after_error, none_in_text, none_left, one_more_event, IsEarliest}
use Rattle.caldate_run.proofs.list.events.next_time.Goals as goal

pub returns-in-Ok-None : goal.returns-in-Ok-None
returns-in-Ok-None c =
    let events = c.args.events.now in
    let none = rw c.in-Ok-None.field-0-is at c.in-Ok-None.ensures in
    earliest_of_all events _ _ _ (subst (λ left. IsEarliest events (bound c.args.after c.args.moment) (parts_left 10 left) c.loop-rest.next) c.in-Some.is c.loop-rest.invariant) (λ y. none_in_text events.zones y c.in-Some.text.now none)

pub returns-in-Err : goal.returns-in-Err
returns-in-Err c =
    let events = c.args.events.now in
    earliest_of_all events _ _ _ (subst (λ left. IsEarliest events (bound c.args.after c.args.moment) (parts_left 10 left) c.loop-rest.next) c.in-Some.is c.loop-rest.invariant)
    (λ y. none_after_error events.zones y c.in-Some.text.now _ c.in-Err.ensures)

pub loop-rest-preserved : goal.loop-rest-preserved
loop-rest-preserved c =
    let events = c.args.events.now in
    let (begin, size, event) = rw c.in-Ok-Some.field-0-is at c.in-Ok-Some.ensures in
    let before = subst (λ left. IsEarliest events (bound c.args.after c.args.moment) (parts_left 10 left) c.loop-rest.next) c.in-Some.is c.loop-rest.invariant in
    subst (IsEarliest events (bound c.args.after c.args.moment) (parts_left 10 c.in-Ok-Some.event.rest)) (sym c.earlier-next.ensures)
    (one_more_event events (bound c.args.after c.args.moment) c.in-Some.text.now begin size c.in-Ok-Some.event c.loop-rest.next c.next_of.result event c.next_of.ensures before)

pub loop-rest-smaller : goal.loop-rest-smaller
loop-rest-smaller c =
    let (begin, size, event) = rw c.in-Ok-Some.field-0-is at c.in-Ok-Some.ensures in
    subst (λ left. length (parts_left 10 c.in-Ok-Some.event.rest) < length (parts_left 10 left)) (sym c.in-Some.is) (fewer_lines c.in-Some.text.now begin size c.in-Ok-Some.event event)

pub returns : goal.returns
returns c =
    let events = c.args.events.now in
    earliest_of_all events _ _ _ (subst (λ left. IsEarliest events (bound c.args.after c.args.moment) (parts_left 10 left) c.loop-rest.next) c.in_default.is c.loop-rest.invariant) (λ y. none_left events.zones y)
