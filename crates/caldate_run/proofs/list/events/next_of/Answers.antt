use Rattle.std.proofs.Common.{◌∙◌, false, subst, sym, true}
use Rattle.cal_recurrence.specs.Words.{parts_at}
use Rattle.caldate_args.specs.Events.{zone_of, HasTime, IsSetOf}
use Rattle.caldate_run.specs.Events.{bound, IsNextTime}
use Rattle.caldate_run.proofs.EventTimes.{next_of_set}
use Rattle.caldate_run.proofs.list.events.next_of.Goals as goal

pub returns-then-after : goal.returns-then-after
returns-then-after c =
    let zones = c.args.zones.now in
    let lines = parts_at 10 c.args.lines.now in
    let set : IsSetOf (zone_of zones c.in-Ok.parts) c.in-Ok-instants_of.its c.set-set.result = record {
      rule = c.set-set.ensures.rule;
      dates = c.set-set.ensures.dates;
      exceptions = c.set-set.ensures.readings;
      zone_is = c.set-set.ensures.zone ∙ c.zone_of.ensures;
      until = c.set-set.ensures.until;
      instants = c.set-set.ensures.instants;
      left_out = c.set-set.ensures.exceptions;
    } in
    subst (λ after. IsNextTime (HasTime zones lines) (bound after c.args.moment) c.next_after.result) (sym c.if-after.true)
    (next_of_set zones lines c.in-Ok.parts c.in-Ok-instants_of.its c.set-set.result (bound true c.args.moment) c.next_after.result c.in-Ok.ensures (sym c.in-Ok-instants_of.ensures) set c.next_after.ensures.value)

pub returns-else-after : goal.returns-else-after
returns-else-after c =
    let zones = c.args.zones.now in
    let lines = parts_at 10 c.args.lines.now in
    let set : IsSetOf (zone_of zones c.in-Ok.parts) c.in-Ok-instants_of.its c.set-set.result = record {
      rule = c.set-set.ensures.rule;
      dates = c.set-set.ensures.dates;
      exceptions = c.set-set.ensures.readings;
      zone_is = c.set-set.ensures.zone ∙ c.zone_of.ensures;
      until = c.set-set.ensures.until;
      instants = c.set-set.ensures.instants;
      left_out = c.set-set.ensures.exceptions;
    } in
    subst (λ after. IsNextTime (HasTime zones lines) (bound after c.args.moment) c.first_from.result) (sym c.if-after.false)
    (next_of_set zones lines c.in-Ok.parts c.in-Ok-instants_of.its c.set-set.result (bound false c.args.moment) c.first_from.result c.in-Ok.ensures (sym c.in-Ok-instants_of.ensures) set c.first_from.ensures.value)
