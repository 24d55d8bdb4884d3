use Rattle.std.proofs.Common.{◌≡◌, ◌∙◌, ap, subst}
use Rattle.cal_recurrence.specs.Cursors.{resumed_reading, resumed_rule}
use Rattle.cal_recurrence.specs.declared.date_time_set.DateTimeSet.{DateTimeSet}
use Rattle.cal_c.proofs.WrittenMoments.{set-of}
use Rattle.cal_c.proofs.schedule.recurrences.pages.write_readings_page.Goals as goal

pub returns : goal.returns
returns c = λ p starts has without.
    let its = c.args.its.now in
    let recurrence = c.args.recurrence.now in
    let counted = c.readings.result in
    let rest = c.cursor.result in
    let set = c.counted_set_at-set.ensures in
    let now : c.write_from-length.new.set.rule ≡ resumed_rule recurrence its.start counted = ap (λ (s : DateTimeSet). s.rule) c.write_from-length.ensures.same ∙ set.rule in
    record {
      counted = counted;
      is_counted = c.readings.ensures;
      set = c.counted_set_at-set.result;
      is_set = set-of recurrence p c.counted_set_at-set.result its.start (λ z. resumed_reading recurrence z counted recurrence.end) its.dates its.exceptions set.rule
          (set.dates ∙ c.as_slice-dates.ensures) (set.exceptions ∙ c.as_slice-exceptions.ensures) starts has without;
      written = c.write_from-length.ensures.written;
      rest = rest;
      is_rest = c.from_readings.ensures;
      same = subst (λ z. resumed_rule recurrence z rest ≡ resumed_rule recurrence z counted) starts (c.cursor.ensures recurrence its.start counted now ∙ now);
    }
