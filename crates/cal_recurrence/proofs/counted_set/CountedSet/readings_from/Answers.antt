use Rattle.std.proofs.Common.{◌∙◌, ap}
use Rattle.std.specs.Prelude.{unsigned_abs}
use Rattle.cal_recurrence.specs.DateTimeSet.{is_in_set, set_readings_left}
use Rattle.cal_recurrence.proofs.RuleOccurrences.{left-from}
use Rattle.cal_recurrence.proofs.counted_set.CountedSet.readings_from.Goals as goal

pub returns : goal.returns
returns c =
    let front = c.first_from-front.result in
    ap (λ set. set_readings_left set front) c.first_from-front.ensures.same
    ∙ left-from (is_in_set c.args.self) (unsigned_abs c.args.reading) front c.first_from-front.ensures.value
