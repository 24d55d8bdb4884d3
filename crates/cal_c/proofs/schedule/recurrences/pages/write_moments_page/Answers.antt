use Rattle.std.proofs.Common.{◌≡◌, ◌∙◌, ap, subst}
use Rattle.cal_recurrence.specs.Cursors.{resumed_local, resumed_zone_rule}
use Rattle.cal_recurrence.specs.declared.zoned_set.ZonedSet.{ZonedSet}
use Rattle.cal_c.proofs.WrittenMoments.{set-of}
use Rattle.cal_c.proofs.schedule.recurrences.pages.write_moments_page.Goals as goal

pub returns : goal.returns
returns c = λ p starts has without.
    let its = c.args.its.now in
    let recurrence = c.args.recurrence.now in
    let counted = c.readings.result in
    let rest = c.cursor.result in
    let set = c.zoned_set_at-set.ensures in
    let now : c.write_moments-length.new.set.readings.rule ≡ resumed_zone_rule recurrence its.start counted =
    ap (λ (s : ZonedSet). s.readings.rule) c.write_moments-length.ensures.same ∙ set.rule in
    record {
      counted = counted;
      is_counted = c.readings.ensures;
      set = c.zoned_set_at-set.result;
      is_set = record {
        readings = set-of recurrence p c.zoned_set_at-set.result.readings its.start (λ z. resumed_local recurrence z counted recurrence.end) its.dates its.exceptions set.rule
            (set.dates ∙ c.as_slice-dates.ensures) (set.readings ∙ c.as_slice-exceptions.ensures) starts has without;
        zone = set.zone;
        until = set.until;
        instants = set.instants;
        exceptions = set.exceptions;
      };
      written = c.write_moments-length.ensures.written;
      rest = rest;
      is_rest = c.from_readings.ensures;
      same = subst (λ z. resumed_zone_rule recurrence z rest ≡ resumed_zone_rule recurrence z counted) starts (c.cursor.ensures recurrence its.start counted now ∙ now);
    }
