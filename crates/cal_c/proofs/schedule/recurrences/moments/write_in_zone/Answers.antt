use Rattle.std.proofs.Common.{◌∙◌}
use Rattle.cal_recurrence.specs.SetMeaning.{last_local}
use Rattle.cal_c.proofs.WrittenMoments.{made-of, set-of}
use Rattle.cal_c.proofs.schedule.recurrences.moments.write_in_zone.Goals as goal

pub returns : goal.returns
returns c = λ p starts has without.
    let its = c.args.its.now in
    let recurrence = c.args.recurrence.now in
    let set = c.zoned_set-set.ensures in
    let made = set-of recurrence p c.zoned_set-set.result.readings its.start (λ z. last_local recurrence z recurrence.end) its.dates its.exceptions set.rule
    (set.dates ∙ c.as_slice-dates.ensures) (set.readings ∙ c.as_slice-exceptions.ensures) starts has without in
    made-of _ recurrence p c.args.zone.now _ _ _ _ c.write_moments.ensures.written made set.zone set.until set.instants set.exceptions
